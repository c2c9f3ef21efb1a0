pub mod Sheets
pub mod Holding
