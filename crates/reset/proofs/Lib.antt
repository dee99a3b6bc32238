pub mod Facts
mod Filling
mod Resetting
