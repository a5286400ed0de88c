pub mod Declared
pub mod File
pub mod Keeping
pub mod Sums
pub mod Walk
pub mod WalkLoops
