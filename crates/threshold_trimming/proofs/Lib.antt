pub mod Splitting
pub mod Totals
pub mod Loops
pub mod Dropped
