pub mod Pairs
pub mod Readings
pub mod Results
