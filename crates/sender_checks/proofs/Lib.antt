pub mod Any
pub mod Rows
