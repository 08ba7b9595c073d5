pub mod Unique
pub mod Runs
pub mod Refused
pub mod Facts
