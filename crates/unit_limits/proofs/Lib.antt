pub mod Firsts
pub mod Shapes
