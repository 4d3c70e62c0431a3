pub mod Climbing
pub mod Carrying
pub mod Rooted
pub mod Descending
pub mod Leaves
pub mod ChargeTimes
pub mod CallerLemmas
pub mod Orders
