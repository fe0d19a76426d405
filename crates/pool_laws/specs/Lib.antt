pub mod Growth
pub mod Kinds
pub mod Sound
pub mod Texts
