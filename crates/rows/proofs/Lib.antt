pub mod Examples
pub mod Longest
pub mod Loops
pub mod Lying
pub mod Values
pub mod Words
