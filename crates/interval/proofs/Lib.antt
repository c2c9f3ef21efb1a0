pub mod Formula
pub mod Guarantee
pub mod Fractions
pub mod Clocks
pub mod Cases
