-- Laws of the claim writer.
mod Answers
mod Text
pub mod Numbers
pub mod Checked
