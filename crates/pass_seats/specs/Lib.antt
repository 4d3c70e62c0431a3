pub mod Lists
pub mod Listed
pub mod Kinds
pub mod private
