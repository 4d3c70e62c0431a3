pub mod Unrolling
pub mod Rounds
pub mod StepPlaces
pub mod Stepping
