pub mod ComputedTraces
pub mod Shown
pub mod Traced
