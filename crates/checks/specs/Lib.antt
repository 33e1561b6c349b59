-- The checks that operations share, and what they show where they pass.
pub mod Checks
pub mod Passed
