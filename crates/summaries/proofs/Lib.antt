pub mod Wrapping
pub mod Gathering
pub mod Fits
