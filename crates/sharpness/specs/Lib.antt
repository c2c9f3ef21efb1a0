pub mod Sharpness
