pub mod Claimed
pub mod Stepped
pub mod Written
pub mod Inside
