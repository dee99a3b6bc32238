mod Admitting
pub mod Below
pub mod Facts
pub mod Letting
mod Numbers
mod Passing
mod Turning
