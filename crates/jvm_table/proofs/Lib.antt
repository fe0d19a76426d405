pub mod Table
pub mod Depths
