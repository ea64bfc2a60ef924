-- Laws of the order of claims: flows between claims, the common part, the least claim, raising.
pub mod Flowing
pub mod Common
pub mod Raising
pub mod Targets
pub mod Examples
