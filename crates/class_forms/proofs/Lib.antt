pub mod Sound
pub mod Fitting
pub mod Few
pub mod Fit
