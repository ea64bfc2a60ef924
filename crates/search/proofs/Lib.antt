pub mod Examples
pub mod FirstLine
pub mod Searches
pub mod Upward
