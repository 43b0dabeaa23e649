pub mod Against
pub mod Same
