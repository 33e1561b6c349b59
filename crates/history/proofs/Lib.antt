-- The theorem on lists of calls, and its instance.
pub mod Kept
pub mod Totals
pub mod Steps
pub mod Theorem
pub mod RegisterLaws
pub mod RegisterCases
