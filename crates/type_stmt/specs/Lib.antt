pub mod Kinds
pub mod Settling
pub mod Typing
pub mod Walking
