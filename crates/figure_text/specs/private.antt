pub mod Outgoing
pub mod JobLine
