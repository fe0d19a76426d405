pub mod Arguments
pub mod Turns
pub mod Lookups
