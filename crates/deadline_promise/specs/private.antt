pub mod Spans
pub mod Blocking
pub mod Listed
