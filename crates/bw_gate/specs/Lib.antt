pub mod Word
pub mod Terms
pub mod Pieces
pub mod Answers
pub mod Table
pub mod Kinds
pub mod Core
