pub mod Bounds
pub mod Groups
