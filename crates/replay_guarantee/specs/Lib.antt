pub mod Replayed
pub mod Witnesses
