pub mod Asked
pub mod Excuses
pub mod Files
pub mod Flags
pub mod Heads
pub mod Made
pub mod Members
