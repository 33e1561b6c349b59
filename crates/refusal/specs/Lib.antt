-- The numbers of refusals.
pub mod Numbers
pub mod Laws
pub mod Distinct
