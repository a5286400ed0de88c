pub mod Loops
pub mod Each
pub mod Numbers
pub mod Writing
