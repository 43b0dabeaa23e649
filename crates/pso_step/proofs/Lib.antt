pub mod CauseLaws
pub mod AnsweringLaws
pub mod Lengths
pub mod Holding
