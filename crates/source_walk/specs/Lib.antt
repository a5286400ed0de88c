pub mod Answers
pub mod Opening
pub mod Walk
