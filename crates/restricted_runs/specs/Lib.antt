pub mod Repeats
pub mod Runs
pub mod Slots
