mod Formed
mod Parameters
mod Written
