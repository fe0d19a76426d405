pub mod Emits
