pub mod Layout
pub mod Represents
