pub mod Letters
pub mod Text
pub mod Output
pub mod Promise
