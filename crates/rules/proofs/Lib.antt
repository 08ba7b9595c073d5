pub mod Facts
pub mod Exactly
pub mod Rows
pub mod Reasons
