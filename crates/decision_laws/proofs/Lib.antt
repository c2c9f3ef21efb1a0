pub mod Equality
pub mod Decision
pub mod Rows
