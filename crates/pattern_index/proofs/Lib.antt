pub mod IndexLaws
pub mod Finding
