-- Laws of the run: what an effect names exists, every state has its shape, every number is a signed 32-bit number, cells of fields that
-- are not had are zero, the history, how it continues, handlers by their lines; and examples.
pub mod Elements
pub mod Found
pub mod Fitting
pub mod Parts
pub mod Applied
pub mod ShapedRun
pub mod Signed
pub mod SignedRun
pub mod NotHad
pub mod History
pub mod Continues
pub mod ByLine
pub mod Programs
pub mod Examples
pub mod Faults
pub mod Raised
