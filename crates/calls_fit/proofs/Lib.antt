pub mod Grows
pub mod Named
pub mod SameKinds
pub mod Entering
pub mod Sure
pub mod Expressions
pub mod Statements
pub mod Members
