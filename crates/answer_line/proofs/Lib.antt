-- What the proofs of several functions use.
pub mod Printed
pub mod Digits
