pub mod ReadingLaws
pub mod CubeLaws
pub mod CubeParts
