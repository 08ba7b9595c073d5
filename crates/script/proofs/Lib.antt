pub mod Writes
pub mod Decimals
pub mod Lengths
pub mod Outputs
pub mod Pages
