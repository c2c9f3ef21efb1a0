pub mod Body
pub mod Seen
