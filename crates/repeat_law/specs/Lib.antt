pub mod Shift
pub mod Repeats
pub mod Marks
pub mod Examples
