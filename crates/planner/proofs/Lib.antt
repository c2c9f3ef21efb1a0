mod Turns
mod Fresh
