pub mod Follow
pub mod Traces
