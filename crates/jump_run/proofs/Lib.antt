pub mod Ticks
pub mod Gathering
pub mod Crewing
pub mod Piecing
pub mod CallerLemmas
