pub mod Bytes
pub mod Escapes
