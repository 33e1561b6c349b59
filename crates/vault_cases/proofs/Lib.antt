-- The table of cases, proved.
pub mod Runs
pub mod Flat
pub mod Made
pub mod Computed
pub mod Table
