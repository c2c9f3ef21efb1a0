pub mod Limits
pub mod Sizes
