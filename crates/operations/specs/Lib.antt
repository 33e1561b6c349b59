-- The table of operations, and the views by their names.
pub mod Operations
pub mod Laws
