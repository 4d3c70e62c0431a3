pub mod Stretches
pub mod Jobs
pub mod Releases
pub mod CpusUsed
pub mod Found
pub mod JobExamples
pub mod JobLaws
pub mod private
