pub mod CallerLemmas
mod Cutting
mod Digits
mod Ending
mod Lining
mod Naming
mod Stepping
