pub mod Decimals
mod Sixteen
pub mod Examples
pub mod OnPages
pub mod Puts
pub mod Said
mod Bytes
mod Letters
