-- The definitions of the journal.
pub mod Calls
pub mod Journal
pub mod Step
pub mod Scan
pub mod Changed
pub mod Parts
