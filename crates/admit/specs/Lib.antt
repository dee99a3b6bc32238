pub mod Admits
pub mod Lengths
pub mod Passes
