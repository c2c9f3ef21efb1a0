pub mod Interval
pub mod Fractions
pub mod Guarantee
pub mod Clocks
pub mod Cases
pub mod Formula
