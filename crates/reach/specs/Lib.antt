pub mod Step
pub mod Reach
