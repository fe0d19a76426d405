pub mod Built
pub mod Outcome
pub mod Steps
pub mod Answer
