pub mod Places
pub mod Steps
pub mod Asks
pub mod Past
pub mod Whole
pub mod All
pub mod Held
