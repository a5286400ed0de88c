pub mod Effects
pub mod Loops
pub mod Stepping
pub mod Sums
pub mod Tests
pub mod Usable
pub mod Whole
