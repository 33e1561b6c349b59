-- Demands 1 and 3 and previews for this vault, and lemmas for the proofs of the public calls.
pub mod Accepted
pub mod Answered
pub mod Demanded
pub mod Called
pub mod Previewed
