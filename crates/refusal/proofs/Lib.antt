-- Lemmas.
pub mod Distinct
