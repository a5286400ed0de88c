pub mod Lines
pub mod Lining
pub mod Listing
pub mod Longest
pub mod Parts
