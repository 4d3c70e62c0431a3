pub mod Reading
pub mod Numbered
pub mod Counting
pub mod Writing
