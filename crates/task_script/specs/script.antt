pub mod ScriptView
pub mod Unrolled
pub mod Segments
pub mod Later
