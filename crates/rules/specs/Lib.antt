pub mod Broken
pub mod Site
