pub mod Codes
pub mod Statements
pub mod Members
pub mod Correct
pub mod Names
