-- Definitions and laws of the payouts.
pub mod Payouts
pub mod Token
pub mod Parts
pub mod Laws
pub mod Moved
