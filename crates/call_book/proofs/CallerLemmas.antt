-- What a caller shows of a run that grows.
pub use Rattle.call_book.proofs.Growing.{run_grows}
