mod Chains
mod Growing
mod Holding
mod Keeping
mod Laying
mod Naming
pub mod Parts
mod Rows
mod Standing
