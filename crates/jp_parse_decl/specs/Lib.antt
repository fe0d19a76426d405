pub mod Answers
pub mod Behind
pub mod Bounds
pub mod Parts
