mod Fours
mod Parts
mod Written
