pub mod Replay
pub mod ReplayText
pub mod Trace
pub mod Traces
