pub mod Replies
pub mod Examples
pub mod private
