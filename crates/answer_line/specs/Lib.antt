-- What the contracts cite.
pub mod Decimal
pub mod Hexadecimal
pub mod Lengths
pub mod Text
