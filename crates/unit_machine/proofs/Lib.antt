-- Laws of the machine over units: its deeds and those of the frames, where frames of a run stand, the two runs, the sentence of the
-- paper; and examples.
pub mod Jumps
pub mod Applied
pub mod Deeds
pub mod Methods
pub mod Standing
pub mod Run
pub mod Lines
pub mod Alike
mod RunExamples
