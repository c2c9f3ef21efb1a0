pub mod Computed
pub mod Rounds
pub mod Guarantee
pub mod Sanity
