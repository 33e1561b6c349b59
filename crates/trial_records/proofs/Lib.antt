-- Lemmas of this crate's proofs.
pub mod Fields
pub mod Made
pub mod Proved
