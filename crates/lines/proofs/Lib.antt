pub mod Cases
mod Lining
mod Writing
