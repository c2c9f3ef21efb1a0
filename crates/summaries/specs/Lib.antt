pub mod Summaries
