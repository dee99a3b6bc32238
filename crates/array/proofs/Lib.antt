pub mod Views
pub mod Places
pub mod Turning
pub mod Ended
