mod Fitting
mod Growing
mod Grows
mod Making
mod Parts
mod Refused
mod Single
mod Whole
