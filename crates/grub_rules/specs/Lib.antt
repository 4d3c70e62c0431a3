pub mod Lag
pub mod Sums
pub mod Rate
pub mod Accounts
pub mod Examples
