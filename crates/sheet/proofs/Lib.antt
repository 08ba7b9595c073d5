pub mod Listing
pub mod Lengths
pub mod Reports
pub mod Outputs
