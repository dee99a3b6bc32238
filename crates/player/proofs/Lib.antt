mod Cases
pub mod Cut
mod Hearing
mod InRing
pub mod Joined
mod Playing
mod Room
mod Sized
