-- What the proofs of several functions use, what the tests of specs/ say, and examples.
pub mod Flags
pub mod Numbers
pub mod Laws
pub mod Examples
