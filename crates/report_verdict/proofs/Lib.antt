pub mod Parts
pub mod ByParts
pub mod Records
pub mod Judging
