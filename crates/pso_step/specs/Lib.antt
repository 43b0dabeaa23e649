pub mod Causes
pub mod Answering
pub mod After
