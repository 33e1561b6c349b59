-- Definitions and laws of the handover of the vault to another owner.
pub mod Handover
pub mod Owed
