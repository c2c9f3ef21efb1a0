pub mod Computed
pub mod Checks
pub mod Call
pub mod Sheets
pub mod Guarantee
pub mod First
pub mod Stations
pub mod Sanity
