-- Laws of units: places and addresses, what a translation says of each instruction, that its frames fit
-- their fields and are read back; and examples.
pub mod Texts
pub mod Starts
pub mod Lengths
pub mod Taken
pub mod ReadBack
pub mod Small
mod Examples
