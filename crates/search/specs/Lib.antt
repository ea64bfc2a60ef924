pub mod Search
pub mod Lines
