pub mod Columns
pub mod Jobs
pub mod Summary
pub mod Promises
pub mod Examples
pub mod Countable
pub mod private
