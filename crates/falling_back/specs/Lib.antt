pub mod Answers
pub mod Trying
