pub mod Every
pub mod Commands
pub mod Rows
pub mod Known
pub mod Encoding
