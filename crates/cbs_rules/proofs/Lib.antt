pub mod Postponing
pub mod Widened
pub mod CallerLemmas
