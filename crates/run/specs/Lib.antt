pub mod Calls
pub mod Book
pub mod Row
pub mod Run
pub mod Drive
pub mod Trace
pub mod Ledger
