pub mod PsoRuns
pub mod Demands
pub mod PsoDemands
pub mod Cases
pub mod Groups
pub mod Pairs
pub mod RegisterDemands
pub mod ReportDemands
