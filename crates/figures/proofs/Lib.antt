pub mod Divisors
pub mod Bounds
pub mod Sums
pub mod Counts
pub mod Year
pub mod Cases
