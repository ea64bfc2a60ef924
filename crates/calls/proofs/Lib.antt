-- Laws of the call list as bytes: its parts one after another, its length, and calls back from bytes; and examples.
pub mod Limits
pub mod Joined
pub mod Writing
pub mod Bytes
pub mod Callees
pub mod Examples
