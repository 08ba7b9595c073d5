pub mod Test
pub mod Refusal
pub mod Row
pub mod Limits
pub mod Reason
