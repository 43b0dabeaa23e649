pub mod AreaLaws
pub mod ByteLaws
pub mod Kept
pub mod MoveLaws
