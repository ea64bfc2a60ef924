-- What `step` answers, and what keeps the lent slices' lengths.
pub mod Answers
pub mod Kept
