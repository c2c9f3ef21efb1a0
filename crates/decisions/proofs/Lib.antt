pub mod Majority
pub mod Candidates
pub mod Voting
