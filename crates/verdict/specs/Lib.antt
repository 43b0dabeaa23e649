pub mod Judge
pub mod Answers
