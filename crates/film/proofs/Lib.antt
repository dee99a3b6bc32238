pub mod Turn
pub mod Agree
pub mod Cases
