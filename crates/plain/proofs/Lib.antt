-- What the proofs of the functions use.
pub mod Puts
pub mod Elements
pub mod States
pub mod Answers
