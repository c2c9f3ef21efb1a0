pub mod Shifted
pub mod Local
pub mod Represent
pub mod Natural
