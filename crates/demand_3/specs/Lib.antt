pub mod Exact
pub mod Guarantee
pub mod Odd
pub mod OneValue
pub mod Regulator
pub mod Witnesses
