pub mod Adding
pub mod Keeping
pub mod Loops
pub mod Macros
pub mod Parts
pub mod Stages
pub mod Staging
pub mod Writing
