-- What a caller shows of the first of several times.
pub use Rattle.due_times.proofs.Rooted.{least_le}
