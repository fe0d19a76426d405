pub mod Again
pub mod Anys
pub mod Breaks
pub mod Inherits
pub mod Places
