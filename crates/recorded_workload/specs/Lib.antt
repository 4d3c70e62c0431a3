pub mod Workload
pub mod Refusals
pub mod WorkloadLaws
pub mod WorkloadExamples
