pub mod Modulated
pub mod Fits
