pub mod Numbers
pub mod Text
pub mod Feed
pub mod Promise
