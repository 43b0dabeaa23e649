pub mod Seen
pub mod Passing
