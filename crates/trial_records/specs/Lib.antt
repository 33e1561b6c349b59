-- Definitions of trial records, and what is said of them.
pub mod Generator
pub mod Trial
pub mod Laws
pub mod Theorems
pub mod Parts
pub mod Examples
