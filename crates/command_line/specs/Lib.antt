pub mod Commands
pub mod Reading
pub mod Found
pub mod Comparing
pub mod Importing
pub mod Tasks
pub mod private
