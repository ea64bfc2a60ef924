-- What a step comes to that does not stay in its frame, for the proofs of the stepper.
pub mod Looked
pub mod Written
pub mod Ways
pub mod Made
pub mod Called
pub mod Left
pub mod Effects
pub mod Applied
pub mod Unwound
