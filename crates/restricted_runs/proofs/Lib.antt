pub mod Writes
pub mod Convex
pub mod Repeating
pub mod Alike
pub mod Running
pub mod Slots
pub mod Leaps
