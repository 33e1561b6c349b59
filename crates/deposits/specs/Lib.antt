-- Definitions and laws of operations 2, 3, 7 and 9.
pub mod Deposit
pub mod Report
pub mod TokenDeposit
pub mod Laws
