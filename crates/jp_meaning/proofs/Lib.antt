mod Choices
pub mod Cuts
mod Examples
pub mod Forms
pub mod Longer
pub mod Turns
