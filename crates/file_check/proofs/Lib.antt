pub mod Tests
pub mod Bare
pub mod Taking
pub mod Runs
