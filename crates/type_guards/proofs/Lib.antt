pub mod GuardNames
pub mod LastTests
pub mod NodeFaults
pub mod Walked
