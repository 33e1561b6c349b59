-- Laws that the proofs cite.
pub mod Lines
pub mod Short
pub mod Taken
