pub mod Starting
pub mod Telling
