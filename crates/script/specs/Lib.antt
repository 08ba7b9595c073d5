pub mod Wrote
pub mod Page
pub mod Quote
pub mod Decimal
pub mod Number
pub mod Kind
pub mod Output
pub mod Promise
