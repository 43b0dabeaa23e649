pub mod Nops
pub mod Report
pub mod Statements
pub mod Verdict
pub mod Cases
