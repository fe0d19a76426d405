pub mod Characters
pub mod Words
pub mod Places
pub mod Signs
pub mod Tokens
pub mod Lexed
