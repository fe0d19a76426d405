pub mod Encoding
pub mod Lists
