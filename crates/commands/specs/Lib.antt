pub mod Table
pub mod Rows
pub mod Reading
pub mod Encoding
