pub mod Start
pub mod Told
pub mod Version
