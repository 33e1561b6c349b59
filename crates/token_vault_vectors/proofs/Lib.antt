-- Laws that the proofs cite.
pub mod Replaying
pub mod Parsed
pub mod Sentences
