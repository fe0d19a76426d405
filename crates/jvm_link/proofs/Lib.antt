pub mod Targets
pub mod Filled
