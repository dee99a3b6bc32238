pub mod Columns
pub mod File
pub mod Header
pub mod Opening
pub mod Stream
pub mod Words
