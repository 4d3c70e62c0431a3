pub mod Choice
pub mod Places
pub mod Order
pub mod Changes
pub mod Moves
pub mod Schedule
pub mod private
pub mod Examples
