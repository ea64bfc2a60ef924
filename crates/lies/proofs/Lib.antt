-- What the crates above use of a state that lies in the lent slices.
pub mod Values
pub mod Looks
pub mod Registers
pub mod Worked
pub mod Effects
pub mod Staying
