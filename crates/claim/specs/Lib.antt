pub mod Allowed
pub mod Frames
pub mod ReadClaim
pub mod Inside
pub mod Sample
