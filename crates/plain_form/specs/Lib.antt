pub mod Families
pub mod Forms
pub mod Main
pub mod Places
