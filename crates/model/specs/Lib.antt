-- Document 01 as definitions: a page for each of its sections, in its order.
pub mod Ensemble
pub mod RoundSheet
pub mod AnswerSheet
pub mod Steps
pub mod Planner
pub mod Refusals
pub mod Calls
pub mod Listing
pub mod Cases
