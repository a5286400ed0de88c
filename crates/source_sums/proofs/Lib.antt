pub mod Asking
pub mod Filling
pub mod Gathering
pub mod NoSum
pub mod Own
pub mod Putting
pub mod Ranges
pub mod Weighing
