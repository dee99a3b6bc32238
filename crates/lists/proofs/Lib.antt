pub mod Nums
pub mod Tab
pub mod Fill
pub mod Rows
pub mod Parts
pub mod Regions
pub mod Every
