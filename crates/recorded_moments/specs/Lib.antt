pub mod Moments
pub mod Ordered
pub mod private
