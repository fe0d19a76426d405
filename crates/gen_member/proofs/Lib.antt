mod Alone
mod Bare
mod Compiles
mod Doing
mod Makes
mod Sizes
mod Wholly
