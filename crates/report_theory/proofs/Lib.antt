pub mod Nops
pub mod Fences
pub mod Runs
pub mod Report
pub mod Verdict
pub mod Cases
