pub mod Bounds
pub mod Clear
pub mod Zero
pub mod First
