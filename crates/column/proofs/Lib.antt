pub mod Indices
pub mod Sums
pub mod OneColumn
pub mod Cases
