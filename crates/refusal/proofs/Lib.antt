pub mod Named
pub mod PassedOn
