pub mod EvidencePart
pub mod Tally
pub mod Reading
pub mod Cube
