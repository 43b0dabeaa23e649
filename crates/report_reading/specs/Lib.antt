pub mod Parts
pub mod Reading
pub mod Answers
pub mod Statements
pub mod Cases
