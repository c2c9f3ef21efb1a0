pub mod Ceiling
pub mod Checks
pub mod Rounds
pub mod Windows
pub mod Verdicts
pub mod Steps
pub mod Targets
