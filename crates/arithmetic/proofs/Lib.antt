-- What the proofs of several functions use, what the results are, and examples.
pub mod Tests
pub mod Fits
pub mod Examples
pub mod Wrapped
