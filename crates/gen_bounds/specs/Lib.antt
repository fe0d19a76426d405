pub mod Nodes
pub mod Sizes
pub mod Limits
pub mod Laws
