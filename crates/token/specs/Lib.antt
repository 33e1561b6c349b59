-- Definitions and laws of the token table.
pub mod Token
pub mod Laws
pub mod Parts
