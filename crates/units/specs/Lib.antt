pub mod Units
pub mod Formats
pub mod Frames
pub mod Translate
