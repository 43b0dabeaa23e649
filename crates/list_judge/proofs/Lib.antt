pub mod LowestLaws
pub mod ListLaws
pub mod ShutLaws
pub mod FullLaws
