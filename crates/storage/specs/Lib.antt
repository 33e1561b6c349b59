-- A good image as facts, and what each kind of write leaves of them.
pub mod Facts
pub mod Zeros
pub mod Regions
pub mod Values
pub mod Bits
pub mod Flags
pub mod Writes
pub mod Heads
pub mod After
pub mod Room
pub mod Setters
pub mod Kept
