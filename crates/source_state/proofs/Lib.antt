pub mod Alone
pub mod Pricing
