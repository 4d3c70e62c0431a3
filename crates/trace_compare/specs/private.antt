pub mod Meetings
pub mod Behind
pub mod Choices
