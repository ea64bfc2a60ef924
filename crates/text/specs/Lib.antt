pub mod Hex
pub mod Run
pub mod Words
