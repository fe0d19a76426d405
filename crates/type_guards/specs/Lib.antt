pub mod Atoms
pub mod Finding
pub mod Summands
pub mod Tests
pub mod Typing
pub mod Walking
