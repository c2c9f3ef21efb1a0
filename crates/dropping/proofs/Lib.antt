pub mod Loops
pub mod Dropped
