pub mod Rounds
pub mod Guarantee
pub mod Witnesses
