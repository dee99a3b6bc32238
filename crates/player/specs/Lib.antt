pub mod Fits
pub mod Lent
pub mod Incoming
pub mod Plays
pub mod Whole
