pub mod Json
pub mod Seen
pub mod Lent
pub mod Grammar
pub mod Fault
pub mod Examples
pub mod private
