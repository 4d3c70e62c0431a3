pub mod Bounded
pub mod Span
pub mod Pieces
pub mod CallerLemmas
pub mod Again
