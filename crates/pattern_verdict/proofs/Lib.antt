pub mod ShownLaws
pub mod SaidLaws
pub mod Cases
