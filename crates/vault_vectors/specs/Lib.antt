-- What the contracts cite.
pub mod Vectors
