pub mod Table
pub mod TableExamples
