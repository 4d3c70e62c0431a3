-- What a caller shows of the script of jobs.
pub use Rattle.recorded_scripts.proofs.Within.{script_within}
