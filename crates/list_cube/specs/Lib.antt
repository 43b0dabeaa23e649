pub mod Sizes
pub mod Editing
