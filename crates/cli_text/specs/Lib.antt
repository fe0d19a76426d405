pub mod Words
pub mod Endings
pub mod Programs
pub mod Lines
