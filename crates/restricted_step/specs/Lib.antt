pub mod Sizes
pub mod Steps
pub mod Usable
pub mod Whole
