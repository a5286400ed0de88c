pub mod Accepting
pub mod Tests
pub mod Trying
