-- Lemmas that the proofs of the payouts share.
pub mod Sums
pub mod Steps
pub mod Loops
pub mod Whole
pub mod Moved
pub mod Owed
