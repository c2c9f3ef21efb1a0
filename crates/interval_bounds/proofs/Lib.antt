mod Sizes
mod Outcomes
