-- Definitions and laws of the emergency migration.
pub mod Migration
