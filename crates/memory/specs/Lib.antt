pub mod Memory
pub mod Writes
