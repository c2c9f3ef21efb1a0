pub mod Computed
pub mod Guarantee
pub mod Sanity
