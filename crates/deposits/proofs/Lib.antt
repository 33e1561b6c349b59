-- Lemmas for the functions' proofs.
pub mod Steps
pub mod Swap
pub mod Whole
pub mod Laws
pub mod Moved
pub mod Owed
