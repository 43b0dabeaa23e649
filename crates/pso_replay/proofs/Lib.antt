pub mod LoopLaws
pub mod Stepping
pub mod Alike
pub mod Accepted
pub mod Replaying
pub mod Cases
