pub mod Act
pub mod Turn
pub mod Run
pub mod Names
