pub mod AnsweringLaws
pub mod Lengths
pub mod LastLaws
