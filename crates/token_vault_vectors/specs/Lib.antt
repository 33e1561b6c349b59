-- What the contracts cite.
pub mod Faults
pub mod Replay
pub mod Numbers
pub mod Reading
