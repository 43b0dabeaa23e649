pub mod QueueLaws
pub mod WriteLaws
pub mod NewestLaws
pub mod MessageLaws
