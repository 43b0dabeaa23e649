pub mod SummaryLaws
pub mod JudgeLaws
