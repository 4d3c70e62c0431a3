pub mod Plan
pub mod Plans
pub mod Pieces
