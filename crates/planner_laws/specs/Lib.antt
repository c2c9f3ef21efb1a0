-- What the laws of the planner's steps speak of.
pub mod Stepping
