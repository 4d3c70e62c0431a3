pub mod Ledger
pub mod Stock
pub mod Listing
pub mod Kept
pub mod Ended
pub mod Played
pub mod Ticking
pub mod Moving
