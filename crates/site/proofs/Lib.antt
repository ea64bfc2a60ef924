-- What the crates above use of the instructions that stay in their frame.
pub mod Decided
pub mod Chosen
