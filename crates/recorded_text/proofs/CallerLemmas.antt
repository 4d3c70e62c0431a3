-- What a caller shows of the lines of a text.
pub use Rattle.recorded_text.proofs.Lining.{first_line, only_line}
pub use Rattle.recorded_text.proofs.Cutting.{rest_is}
