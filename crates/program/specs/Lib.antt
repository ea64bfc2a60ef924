pub mod Lists
pub mod Program
pub mod Tables
