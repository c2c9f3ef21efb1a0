pub mod Means
pub mod Settled
pub mod Hull
pub mod Medians
pub mod Limits
pub mod Trimmed
