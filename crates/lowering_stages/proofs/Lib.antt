pub mod Effects
pub mod Holds
pub mod Making
pub mod Numbers
pub mod Openings
pub mod Rows
