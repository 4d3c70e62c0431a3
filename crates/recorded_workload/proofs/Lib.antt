pub mod CallerLemmas
mod Walks
mod Numbered
mod Found
mod Legality
mod Texts
mod Starts
