pub mod Turns
pub mod Copies
pub mod Kind
