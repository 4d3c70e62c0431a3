-- What a caller shows of a run that is streamed in pieces.
pub use Rattle.streamed_run.proofs.Pieces.{streamed_whole}
