pub mod AlmostFull
pub mod Order
pub mod Evidence
pub mod Needed
