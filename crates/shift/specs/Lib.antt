pub mod Places
pub mod Shift
pub mod Stay
pub mod Kinds
