pub mod Computed
pub mod Listed
pub mod Passed
pub mod Replayed
pub mod Sanity
pub mod TwoRuns
