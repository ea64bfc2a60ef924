pub mod Bounded
pub mod Step
pub mod Lent
