pub mod PlaceLaws
pub mod EntryLaws
pub mod PartLaws
pub mod HeldLaws
pub mod SearchLaws
