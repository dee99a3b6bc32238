pub mod Joined
pub mod Over
