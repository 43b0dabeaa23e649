pub mod StepLaws
pub mod WalkLaws
pub mod TakeLaws
pub mod SerialiseLaws
pub mod UpdateLaws
pub mod FullLaws
pub mod FamilyLaws
pub mod OwnLaws
