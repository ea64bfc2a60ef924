-- What keeps the lent slices' lengths.
pub mod Keeps
