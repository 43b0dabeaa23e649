pub mod Answers
pub mod ByParts
