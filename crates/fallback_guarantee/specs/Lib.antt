pub mod Call
pub mod Guarantee
pub mod Exact
pub mod Stations
pub mod Witnesses
