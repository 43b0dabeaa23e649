pub mod Answering
pub mod Rows
pub mod After
pub mod Stored
pub mod LastTest
