-- The book, and how operations move it.
pub mod Integers
pub mod Book
pub mod Moves
pub mod Entries
pub mod Flows
pub mod Owed
