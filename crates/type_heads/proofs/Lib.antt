pub mod FaultLists
pub mod Levels
pub mod Misfits
pub mod Search
pub mod Upwards
