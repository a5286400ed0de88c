pub mod Accepted
pub mod Column
pub mod Declarations
pub mod Walk
