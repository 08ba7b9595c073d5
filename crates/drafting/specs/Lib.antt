pub mod Draft
pub mod Scan
pub mod Expected
pub mod Held
pub mod Parse
pub mod Gather
pub mod Promise
