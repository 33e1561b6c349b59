-- What the operations outside the vault owe to demand 3.
pub mod Owed
