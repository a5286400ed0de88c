pub mod Alone
pub mod Priced
pub mod Step
