pub mod Lists
pub mod Variants
pub mod One
pub mod Printed
pub mod Values
pub mod Decided
pub mod Blocks
