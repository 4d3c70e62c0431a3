pub mod LineView
pub mod Lines
pub mod Keeping
