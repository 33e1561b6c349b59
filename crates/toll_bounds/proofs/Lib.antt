-- Lemmas of this crate's proofs.
pub mod Chunks
pub mod Sums
pub mod Transfers
pub mod Proved
pub mod Whole
