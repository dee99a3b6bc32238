pub mod Places
pub mod Window
pub mod Blocks
pub mod Cases
