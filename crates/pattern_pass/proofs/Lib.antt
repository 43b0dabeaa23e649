pub mod BodyLaws
pub mod SeenLaws
pub mod ListedLaws
pub mod PassLaws
pub mod Places
pub mod HandsOn
pub mod AreaLaws
