pub mod Declarations
pub mod Holding
pub mod Stored
