pub mod Counting
pub mod Worked
