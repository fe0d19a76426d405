pub mod Compiled
pub mod Plain
pub mod Laws
