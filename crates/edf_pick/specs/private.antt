pub mod Choosing
pub mod First
pub mod Room
pub mod Search
pub mod RunningSet
pub mod Ready
