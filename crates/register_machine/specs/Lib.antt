pub mod Program
pub mod Machine
pub mod Runs
pub mod PsoMachine
pub mod Written
pub mod Correspondence
pub mod PsoCorrespondence
pub mod Cases
