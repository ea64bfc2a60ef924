pub mod ClaimText
pub mod Inside
