-- Definitions and laws of the record of a call.
pub mod Record
pub mod Form
pub mod Laws
pub mod Views
pub mod Numbers
pub mod Head
