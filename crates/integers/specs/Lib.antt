pub mod All
pub mod Parts
pub mod Division
pub mod Numbers
pub mod Relation
