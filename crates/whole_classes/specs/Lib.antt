pub mod Above
pub mod Bodies
pub mod Laws
pub mod Whole
