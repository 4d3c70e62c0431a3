pub mod Knows
