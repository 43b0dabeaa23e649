pub mod Items
pub mod Kept
