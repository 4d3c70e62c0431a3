-- What a caller shows of the jobs of all tasks.
pub use Rattle.recorded_workload.proofs.Found.{found_all}
