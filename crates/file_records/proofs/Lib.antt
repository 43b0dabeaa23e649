pub mod RecordLaws
pub mod ProgramLaws
