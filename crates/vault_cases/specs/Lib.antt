-- The vault of the cases A to L, and the cases.
pub mod Setting
pub mod Cases
