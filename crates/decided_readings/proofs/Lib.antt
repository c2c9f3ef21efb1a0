pub mod Squares
pub mod Sizes
