pub mod Timers
pub mod OpenCharges
pub mod private
