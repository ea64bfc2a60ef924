pub mod Entries
pub mod Examples
pub mod Lines
pub mod Short
