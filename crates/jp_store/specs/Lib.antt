pub mod Outcome
pub mod Arith
pub mod Classes
pub mod Store
pub mod Work
pub mod Heap
