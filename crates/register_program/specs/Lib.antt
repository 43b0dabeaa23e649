pub mod Form
pub mod Reading
pub mod Registers
pub mod Parts
