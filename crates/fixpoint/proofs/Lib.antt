-- Laws of raising: what flows ask, how a claim rises, where it ends; and examples.
pub mod Room
pub mod Rises
pub mod Asked
pub mod Once
pub mod Definition
pub mod WordsFit
mod Examples
