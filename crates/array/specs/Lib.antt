pub mod Stages
pub mod Memories
pub mod Planar
pub mod Lent
pub mod Refusals
pub mod Calls
pub mod Turn
pub mod Buffers
