pub mod Lines
pub mod Records
pub mod Runs
pub mod Lengths
pub mod Prints
pub mod Promised
pub mod Outputs
