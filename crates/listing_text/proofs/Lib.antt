pub mod Counting
pub mod Digits
pub mod Fronts
pub mod Sign
pub mod Worked
