-- Definitions and laws of operations 1 and 20.
pub mod Setup
pub mod Owed
