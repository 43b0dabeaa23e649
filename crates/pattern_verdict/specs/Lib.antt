pub mod Offending
pub mod Said
pub mod Cases
