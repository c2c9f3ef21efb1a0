pub mod Spans
pub mod Testing
