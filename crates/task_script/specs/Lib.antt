pub mod NameView
pub mod script
pub mod Examples
pub mod private
