pub mod Constants
pub mod WellFormed
pub mod Layout
