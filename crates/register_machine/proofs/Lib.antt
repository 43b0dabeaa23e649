pub mod Lists
pub mod Numbers
pub mod Stepping
pub mod Correspondence
pub mod PsoStepping
pub mod PsoCorrespondence
pub mod Cases
