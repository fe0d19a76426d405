pub mod Form
pub mod Deciding
