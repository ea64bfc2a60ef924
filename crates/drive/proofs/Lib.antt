-- Laws of the models: turns of a loop, and what keeps the lent slices' lengths.
pub mod Driver
pub mod Turns
pub mod Keeps
