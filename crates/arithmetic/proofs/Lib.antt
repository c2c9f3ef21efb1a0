pub mod Bools
pub mod Counting
pub mod Writing
pub mod Division
pub mod Shift
pub mod Sums
