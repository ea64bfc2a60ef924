pub mod Marked
pub mod Sample
