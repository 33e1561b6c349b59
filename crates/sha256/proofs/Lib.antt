-- What the proof of `sha256` uses.
pub mod Same
