pub mod Checks
pub mod Limits
pub mod Numbers
pub mod Tables
