-- How operations move the book.
pub mod Flowed
