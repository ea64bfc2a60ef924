pub mod Read
pub mod Formed
pub mod Inside
pub mod Sample
