pub mod Cases
pub mod Orders
