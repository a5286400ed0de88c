pub mod Accepted
pub mod Layout
pub mod Parts
pub mod Ready
pub mod Row
pub mod Sizes
pub mod Step
pub mod Table
