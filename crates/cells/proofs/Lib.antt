-- Laws of values in lent slices, and examples.
pub mod Examples
pub mod Values
