pub mod Streamed
pub mod private
