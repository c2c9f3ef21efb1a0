pub mod Settled
pub mod Passing
pub mod Fitting
