pub mod Stack
pub mod Opcodes
pub mod Decode
pub mod Descriptors
pub mod Constants
pub mod Act
