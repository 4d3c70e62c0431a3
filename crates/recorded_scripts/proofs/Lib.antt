pub mod CallerLemmas
mod Lawful
mod Steps
mod Within
