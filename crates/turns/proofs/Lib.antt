pub mod Numbered
pub mod AnyOrder
pub mod Rule
