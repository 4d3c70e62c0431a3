pub mod Comments
pub mod Filling
pub mod Numbers
pub mod Places
pub mod Repeats
pub mod Strict
pub mod Examples
