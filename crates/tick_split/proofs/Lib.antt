pub mod Spending
pub mod Cutting
pub mod CallerLemmas
