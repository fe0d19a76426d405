pub mod Cells
pub mod Named
