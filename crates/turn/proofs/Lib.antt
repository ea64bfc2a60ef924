-- Laws of what stops the stepper.
pub mod Stops
