-- Definitions and laws of operation 4.
pub mod Batch
pub mod Laws
pub mod Moved
