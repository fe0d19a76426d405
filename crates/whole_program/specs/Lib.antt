pub mod Fits
pub mod Right
pub mod Laws
pub mod Headline
pub mod Found
