mod Calls
mod Lines
mod Reach
mod Wholeness
