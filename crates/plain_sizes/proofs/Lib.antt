pub mod WithinLimits
pub mod NoAliases
pub mod Plain
