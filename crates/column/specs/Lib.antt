pub mod Recurrence
pub mod Fits
