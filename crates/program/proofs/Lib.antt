pub mod Grow
pub mod Joined
pub mod Lists
pub mod Every
pub mod Read
pub mod Tables
pub mod Words
pub mod Writes
