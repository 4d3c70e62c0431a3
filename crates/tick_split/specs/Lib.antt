pub mod Planning
pub mod Charging
pub mod Pieces
pub mod private
pub mod Examples
