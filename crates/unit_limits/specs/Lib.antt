pub mod Aliases
pub mod Counting
pub mod Locals
pub mod Members
pub mod Texts
