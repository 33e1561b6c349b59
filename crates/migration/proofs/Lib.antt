-- Lemmas for the proofs of the emergency migration.
pub mod Laws
pub mod Moved
pub mod Owed
