pub mod Audible
