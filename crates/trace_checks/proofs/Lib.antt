pub mod Parts
pub mod Traced
