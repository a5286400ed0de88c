pub mod Agreeing
pub mod Halves
pub mod Steps
