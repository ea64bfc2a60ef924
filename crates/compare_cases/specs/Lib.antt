-- What the contracts of `compare_cases` cite. Assumes nothing.
pub mod Records
