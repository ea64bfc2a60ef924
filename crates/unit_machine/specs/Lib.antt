pub mod UnitDeed
pub mod UnitRun
pub mod Alike
