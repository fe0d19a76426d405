pub mod CodeSteps
pub mod Prints
pub mod Runs
pub mod Loads
pub mod Formed
pub mod Units
pub mod Joins
pub mod Answering
