pub mod Strictly
pub mod Lone
pub mod Best
