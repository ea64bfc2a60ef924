-- Laws of a claim's text: its digits say its masks, the claim reader reads it back, how long it is; and examples.
pub mod Lines
pub mod Back
pub mod Sizes
pub mod RoundTrip
pub mod WordsKept
pub mod WordsOwn
pub mod WordsUnder
pub mod LeastText
mod Examples
pub mod Longest
mod Texts
mod Lengths
