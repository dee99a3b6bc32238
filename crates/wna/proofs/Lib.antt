pub mod Whole
pub mod Facts
pub mod Streaming
pub mod Planar
pub mod Order
mod Taken
mod Heading
