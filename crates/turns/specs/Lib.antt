pub mod Grid
pub mod Turn
pub mod Plan
