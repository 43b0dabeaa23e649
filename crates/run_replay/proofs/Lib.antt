pub mod Accepted
pub mod LoopLaws
pub mod Holding
pub mod Stepping
pub mod Replaying
pub mod Cases
