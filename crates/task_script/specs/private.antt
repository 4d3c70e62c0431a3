pub mod Progress
pub mod Steps
pub mod Bodies
