-- Definitions and laws of the operations outside the vault.
pub mod Outside
pub mod Laws
