pub mod Column
pub mod Layered
pub mod Slots
pub mod Pieces
pub mod Held
