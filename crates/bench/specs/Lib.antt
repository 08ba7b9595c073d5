pub mod Record
pub mod Sound
pub mod Turn
pub mod Points
pub mod Promise
