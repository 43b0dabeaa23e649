pub mod Slots
pub mod Groups
pub mod Summary
pub mod Walks
