pub mod View
pub mod Steps
pub mod Play
pub mod Site
pub mod Bench
