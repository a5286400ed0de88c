pub mod Agreeing
pub mod Counted
