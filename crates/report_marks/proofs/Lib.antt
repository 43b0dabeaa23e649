pub mod Firsts
pub mod MarkLaws
pub mod NopBytes
pub mod NopReading
pub mod CopyLaws
pub mod Room
