pub mod Report
pub mod Output
