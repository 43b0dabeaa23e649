pub mod Verdicts
pub mod AreaLaws
