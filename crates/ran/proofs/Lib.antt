-- The theorem of the run, and its parts.
pub mod Begins
pub mod Run
pub mod Steps
pub mod Stops
pub mod Within
