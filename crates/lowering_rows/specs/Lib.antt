pub mod Bytes
pub mod Macros
