pub mod Escaping
pub mod Lines
pub mod Drawn
