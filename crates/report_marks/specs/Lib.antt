pub mod Marks
pub mod Copy
