pub mod Computed
pub mod Entries
pub mod Filled
pub mod Link
pub mod Ready
