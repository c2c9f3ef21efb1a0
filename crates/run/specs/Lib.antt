pub mod Rounds
pub mod Run
