-- What is said case by case of how the stepper begins, and of what is answered in the end.
pub mod Answers
pub mod Told
