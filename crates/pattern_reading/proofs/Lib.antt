pub mod Cases
pub mod Range
pub mod Safety
