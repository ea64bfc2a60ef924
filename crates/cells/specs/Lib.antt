pub mod Cells
pub mod Reads
