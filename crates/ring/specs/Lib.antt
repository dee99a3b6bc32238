pub mod Place
pub mod Moved
pub mod Memory
pub mod Held
