pub mod Short
pub mod Fitting
pub mod Laws
