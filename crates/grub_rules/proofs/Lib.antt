pub mod Exchanging
pub mod CallerLemmas
pub mod Rating
pub mod Shifting
