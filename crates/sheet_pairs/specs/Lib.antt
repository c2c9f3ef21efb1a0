pub mod Fallback
pub mod Results
