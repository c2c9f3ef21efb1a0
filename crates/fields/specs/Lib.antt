pub mod Putting
pub mod Writing
