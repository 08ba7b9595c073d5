pub mod Places
pub mod Filled
pub mod Spaced
pub mod Cases
pub mod Goes
pub mod Says
pub mod Whole
