pub mod Values
pub mod Stores
pub mod Work
pub mod Laws
