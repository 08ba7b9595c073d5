pub mod Within
pub mod Answers
pub mod Small
