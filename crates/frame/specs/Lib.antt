pub mod Frame
pub mod Places
