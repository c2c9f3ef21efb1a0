pub mod Missing
pub mod Places
