-- Definitions of toll bounds, and what is said of them.
pub mod Bounds
pub mod Laws
pub mod Theorems
pub mod Parts
pub mod Examples
