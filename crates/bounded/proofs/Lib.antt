-- Laws that tell the stepper's answers apart, and examples.
pub mod Rows
pub mod Raised
pub mod Stops
pub mod Left
pub mod Lending
pub mod Outcomes
pub mod Laws
pub mod LentLaws
pub mod Texts
pub mod Examples
