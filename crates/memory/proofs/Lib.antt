-- Laws of words and places, and examples.
pub mod Examples
pub mod Places
pub mod Values
