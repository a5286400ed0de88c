pub mod Judging
pub mod Loop
pub mod Opening
pub mod Turns
pub mod Walking
