pub mod Lines
pub mod Listings
