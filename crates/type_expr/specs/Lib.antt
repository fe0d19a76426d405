pub mod DotCalls
pub mod Groups
pub mod Resolving
pub mod Settling
pub mod Typing
