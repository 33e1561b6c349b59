-- Laws that the proofs of several functions cite.
pub mod Bytes
pub mod Decoded
pub mod Form
pub mod ItemRule
