pub mod After
pub mod Groups
pub mod Splits
