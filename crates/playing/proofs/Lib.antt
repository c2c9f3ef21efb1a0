pub mod Filling
pub mod Hearing
pub mod Parting
pub mod Turn
pub mod Rounds
pub mod Outcomes
