pub mod Guarantee
pub mod Witnesses
