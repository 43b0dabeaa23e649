pub mod FullStates
pub mod FamilyTable
pub mod Groups
pub mod Members
