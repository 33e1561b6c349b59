-- What the contracts cite.
pub mod Sha256
pub mod Examples
