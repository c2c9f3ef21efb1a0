pub mod Fitting
pub mod Missing
pub mod Places
