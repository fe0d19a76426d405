pub mod Ahead
pub mod BehindGuards
pub mod GuardParts
pub mod Literals
pub mod Parts
