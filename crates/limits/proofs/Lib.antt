pub mod Elements
pub mod Turns
pub mod Books
pub mod Files
pub mod Start
pub mod Runs
pub mod Promised
