-- Lemmas for the functions' proofs.
pub mod Loops
pub mod Moved
pub mod Owed
