-- Laws of the tests that rules 0 to 3 make, and of rows of words.
pub mod Tests
pub mod Rows
