-- Definitions and laws of operations 10 to 14, 18 and 19.
pub mod Settings
pub mod Owed
