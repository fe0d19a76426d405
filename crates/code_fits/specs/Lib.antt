pub mod Encodable
pub mod Ordinary
pub mod Laws
