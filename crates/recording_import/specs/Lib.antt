pub mod Import
pub mod Answer
pub mod Ending
pub mod Jobs
pub mod private
