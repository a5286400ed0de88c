pub mod Openings
pub mod Shapes
pub mod Stages
