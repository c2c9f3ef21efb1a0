pub mod Rounds
pub mod Settling
