-- What holds of every row of the table of operations.
pub mod Owed
pub mod Numbers
pub mod Silent
