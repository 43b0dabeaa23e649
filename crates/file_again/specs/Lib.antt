pub mod Again
pub mod Contents
pub mod Offending
pub mod Cutting
