pub mod Ending
pub mod Ends
pub mod Forms
pub mod Found
pub mod Listing
pub mod Walks
