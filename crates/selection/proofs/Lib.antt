pub mod Selection
pub mod Narrowing
