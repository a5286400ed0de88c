pub mod Numbers
pub mod Parts
pub mod Products
pub mod Division
pub mod Cases
pub mod All
