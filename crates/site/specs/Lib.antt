pub mod Site
pub mod Work
