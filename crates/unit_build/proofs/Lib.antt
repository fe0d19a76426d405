pub mod Adding
pub mod Writable
