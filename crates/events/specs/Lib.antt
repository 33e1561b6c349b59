-- Definitions and laws of events and their buffer.
pub mod Splice
pub mod Event
pub mod Kinds
pub mod Buffer
