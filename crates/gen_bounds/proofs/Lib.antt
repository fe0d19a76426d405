pub mod Weights
pub mod Forms
pub mod Expressions
pub mod Statements
pub mod Members
pub mod Fitting
pub mod Bounds
