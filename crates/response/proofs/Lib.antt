pub mod Calls
pub mod Covered
pub mod Claims
pub mod Examples
pub mod Longest
pub mod Runs
mod Panels
