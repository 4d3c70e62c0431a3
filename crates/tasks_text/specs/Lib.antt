pub mod Tasks
pub mod BadLine
pub mod TaskExamples
pub mod private
