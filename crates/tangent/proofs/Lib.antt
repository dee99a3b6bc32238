pub mod Steps
pub mod Range
pub mod Guards
pub mod Facts
