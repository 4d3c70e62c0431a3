pub mod Sides
pub mod Faults
pub mod Calls
