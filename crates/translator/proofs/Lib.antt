-- Laws of the translator.
mod Firsts
mod OneLine
mod UnitDigits
mod Walking
mod KnownStarts
mod Checking
mod Progress
mod FrameText
mod Answers
pub mod Numbers
pub mod Longest
