pub mod Results
pub mod Collections
pub mod Year
