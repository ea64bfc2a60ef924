pub mod Answers
pub mod Kept
pub mod Numbers
pub mod Sample
pub mod Says
