-- What the proofs of several functions use.
pub mod Read
pub mod Pieces
pub mod Sentences
