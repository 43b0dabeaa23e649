pub mod Machine
pub mod Runs
pub mod Cases
pub mod Ranges
