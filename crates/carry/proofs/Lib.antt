pub mod Joined
pub mod Split
