-- How the slices of a state change with the state, for the proofs of the stepper.
pub mod Lists
pub mod Parts
pub mod Frames
pub mod Objects
pub mod Statics
pub mod Start
pub mod Passed
