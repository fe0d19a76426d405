pub mod Completes
pub mod Counts
pub mod Shapes
