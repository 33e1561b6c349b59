-- The kept list, what operations owe, and a small vault to try them on.
pub mod Kept
pub mod Owed
pub mod Register
