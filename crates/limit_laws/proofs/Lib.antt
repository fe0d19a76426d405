pub mod AtOnce
pub mod GuardAliases
pub mod Counts
pub mod Fits
pub mod Params
pub mod Slots
pub mod Units
pub mod Within
