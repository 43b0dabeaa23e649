pub mod Closing
pub mod Walk
