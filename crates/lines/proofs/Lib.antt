pub mod Cursors
pub mod Examples
