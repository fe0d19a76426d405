pub mod Endings
pub mod Ends
pub mod Faults
pub mod Texts
