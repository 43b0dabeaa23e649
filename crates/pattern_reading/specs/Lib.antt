pub mod Records
pub mod Reading
pub mod Cases
pub mod Places
pub mod Safety
