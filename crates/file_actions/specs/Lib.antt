pub mod Numeric
pub mod Places
pub mod Taking
pub mod Views
pub mod Within
