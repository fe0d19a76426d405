pub mod Standing
pub mod Positions
pub mod Below
pub mod Widening
pub mod Walks
