pub mod Checking
pub mod Limits
pub mod Parts
pub mod Positions
pub mod Settling
pub mod SettledMembers
pub mod Walking
