pub mod Facts
pub mod Sizes
