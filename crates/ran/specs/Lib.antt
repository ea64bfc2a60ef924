pub mod Ran
pub mod Rounding
