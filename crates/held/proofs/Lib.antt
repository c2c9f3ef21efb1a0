pub mod Biased
pub mod Biasing
pub mod Held
pub mod Kept
