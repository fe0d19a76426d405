pub mod Extending
pub mod Adding
pub mod Naming
pub mod Soundness
pub mod Fitting
