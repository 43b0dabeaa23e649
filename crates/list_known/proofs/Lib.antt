pub mod FullTable
pub mod FamilyTable
pub mod ClueLaws
pub mod GroupLaws
pub mod MemberLaws
