pub mod Tab
pub mod Part
pub mod Region
