pub mod Computed
pub mod Rounding
pub mod Guarantee
pub mod Sanity
