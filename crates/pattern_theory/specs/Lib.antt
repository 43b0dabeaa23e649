pub mod Patterns
pub mod Fitting
pub mod Within
pub mod Predecessors
pub mod Storing
pub mod Verdict
pub mod Safety
pub mod Cases
