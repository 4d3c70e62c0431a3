-- A section of a calls text that a reader has begun.
use Rattle.std.specs.Prelude.{ℕ, List}
use Rattle.calls_text.specs.SectionView.{SectionView}
use Rattle.calls_text.specs.Reader.{ReaderView, IsWithin, empty_section}

-- a reader of some text has begun this section, and read no entry of it
pub record IsBegun (cpus limit : ℕ) (reader : ReaderView) : Type 0 where
  pub text : List ℕ
  pub before : List SectionView
  pub within : IsWithin text before (empty_section cpus limit) reader
