pub mod Scanning
pub mod Answer
