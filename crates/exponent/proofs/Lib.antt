pub mod Signed
pub mod Rule
pub mod Ranges
pub mod Guards
pub mod Rounding
pub mod Facts
