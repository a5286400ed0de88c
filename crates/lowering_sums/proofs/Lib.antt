pub mod Measuring
pub mod Own
pub mod Starting
pub mod Weighing
