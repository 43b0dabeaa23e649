pub mod CubeLaws
pub mod UpdateLaws
