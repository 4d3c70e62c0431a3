pub mod Parts
pub mod Views
pub mod Steps
pub mod Rooms
pub mod Races
pub mod Core
