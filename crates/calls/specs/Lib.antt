pub mod Bytes
pub mod Inside
pub mod Added
