pub mod Behind
pub mod Forms
pub mod Locals
pub mod Parses
pub mod Parts
