-- The step of this vault, the contracts of the public calls, demands 1 and 3, which cells a call enters, and previews.
pub mod Vault
pub mod Public
pub mod Demand
pub mod Cells
pub mod Preview
