mod Known
mod Asked
pub mod CallerLemmas
