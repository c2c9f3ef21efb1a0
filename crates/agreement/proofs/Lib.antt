pub mod Kept
pub mod Near
pub mod Agreeing
pub mod Holding
pub mod Rounds
