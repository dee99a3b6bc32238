pub mod Rows
pub mod Tanh
