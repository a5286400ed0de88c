pub mod Following
pub mod Projecting
pub mod Sources
