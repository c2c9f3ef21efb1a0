pub mod Below
pub mod Intervals
pub mod Fallbacks
pub mod Parts
pub mod Sound
pub mod Listed
pub mod Told
