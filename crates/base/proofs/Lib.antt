pub mod ByteLaws
pub mod Tests
