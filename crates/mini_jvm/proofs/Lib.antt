pub mod Steps
pub mod Room
pub mod Joins
pub mod Walking
