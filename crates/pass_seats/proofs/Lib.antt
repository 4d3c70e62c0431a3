pub mod Views
pub mod Steps
