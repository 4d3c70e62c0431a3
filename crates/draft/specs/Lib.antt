pub mod Columns
pub mod Draft
