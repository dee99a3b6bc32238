pub mod Table
pub mod Split
pub mod Exp
