pub mod Asked
pub mod Found
pub mod Put
