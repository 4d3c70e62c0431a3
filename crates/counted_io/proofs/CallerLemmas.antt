-- What a caller shows of its reads, one after the other.
pub use Rattle.counted_io.proofs.Asked.{AreReads, no_reads, read_on, read_to}
