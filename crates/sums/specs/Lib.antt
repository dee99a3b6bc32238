pub mod Product
pub mod Fits
