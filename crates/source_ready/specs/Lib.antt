pub mod Made
pub mod Narrowed
