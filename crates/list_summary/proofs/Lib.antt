pub mod WordLaws
pub mod SlotLaws
pub mod ChainLaws
pub mod GroupLaws
pub mod LeaderLaws
pub mod AddedLaws
pub mod WalkLaws
pub mod OnwardLaws
