-- What the proofs of the functions use, and crates above.
pub mod Filled
