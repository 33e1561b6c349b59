-- Laws that the proofs cite.
pub mod Transactions
pub mod Lines
