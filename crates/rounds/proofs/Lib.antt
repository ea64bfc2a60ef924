-- The stepper's loops end, and keep the lent slices' lengths.
pub mod Fewer
pub mod Falls
