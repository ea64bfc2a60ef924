pub mod Inside
pub mod Raises
