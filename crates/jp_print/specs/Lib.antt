pub mod Layout
pub mod Expressions
pub mod Guards
pub mod Statements
pub mod Declarations
pub mod Places
pub mod ReadsBack
