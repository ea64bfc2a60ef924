pub mod Claim
pub mod Flows
pub mod Rules
pub mod Verdict
pub mod Calls
pub mod Covered
pub mod Inside
pub mod Safe
