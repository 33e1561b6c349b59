-- The laws of the journal.
pub mod Written
pub mod Cells
pub mod States
pub mod Dispatch
pub mod Refusals
pub mod Scanned
pub mod Backwards
pub mod Chunks
pub mod Layouts
pub mod Outcomes
pub mod Stretches
pub mod Exact
pub mod Entering
