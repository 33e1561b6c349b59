-- Steps of the functions of events.
pub mod Laid
