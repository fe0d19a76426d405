pub mod Moving
pub mod Filled
pub mod Walked
