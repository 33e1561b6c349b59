-- Outcomes of operations, and the records that they are made of.
pub mod Outcome
pub mod Checked
pub mod FormedLaws
