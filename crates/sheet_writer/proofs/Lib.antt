pub mod Filling
pub mod Stores
