pub mod LeftLaws
pub mod TracedLaws
pub mod PlacedLaws
pub mod SameLaws
