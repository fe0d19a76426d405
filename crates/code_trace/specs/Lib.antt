pub mod Entry
pub mod Calls
pub mod CodeTrace
pub mod Given
pub mod OpenTraces
pub mod Follows
pub mod Laws
