pub mod Register
pub mod Word
pub mod Promise
