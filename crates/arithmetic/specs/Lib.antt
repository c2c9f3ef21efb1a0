-- What counting, summing, searching and writing mean, for the pages of document 01 that use them.
pub mod Words
pub mod Counting
pub mod Writing
pub mod Naturals
