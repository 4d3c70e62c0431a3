pub mod Running
pub mod Printing
pub mod Named
pub mod PlayedBooks
pub mod HistoryText
pub mod Tellable
pub mod Streaming
pub mod Asked
