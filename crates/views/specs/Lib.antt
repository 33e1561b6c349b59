-- Definitions of the views.
pub mod Views
