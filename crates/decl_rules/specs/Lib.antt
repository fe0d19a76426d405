pub mod Clashes
pub mod Inherited
pub mod Pairs
pub mod Signatures
pub mod Standing
