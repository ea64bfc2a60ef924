pub mod Marks
pub mod Valued
