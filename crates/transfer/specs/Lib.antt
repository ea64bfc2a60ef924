pub mod Transfer
pub mod Site
