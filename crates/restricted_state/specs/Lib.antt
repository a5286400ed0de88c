pub mod Alone
pub mod Step
