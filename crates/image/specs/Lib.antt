-- The places of an image, and what a good image is.
pub mod Layout
pub mod Good
pub mod Laws
pub mod Flags
pub mod Kinds
pub mod Keys
