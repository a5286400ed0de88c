pub mod Answering
pub mod Expanding
pub mod Writing
