pub mod Translating
pub mod Inside
