pub mod Lies
pub mod Staying
