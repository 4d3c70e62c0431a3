pub mod Entering
pub mod Moving
pub mod Parts
pub mod Admitting
pub mod Closing
pub mod Ending
pub mod Begun
