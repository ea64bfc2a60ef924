-- Passing arguments ends, and what keeps the lent slices' lengths.
pub mod Falls
pub mod Keeps
