pub mod Seen
pub mod Gives
pub mod Sight
pub mod private
