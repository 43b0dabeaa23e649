pub mod Text
pub mod Runs
pub mod Writing
pub mod Parts
pub mod Accepted
pub mod Reading
pub mod Directions
