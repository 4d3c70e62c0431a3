-- What a contract sees of a section.
use Rattle.std.specs.Prelude.{ℕ, List}
use Rattle.calls_text.specs.declared.section.Entry.{Entry}

-- one domain, with so many CPUs and this limit for each of them, and the calls on it in their order
pub record SectionView : Type 0 where
  pub cpus : ℕ
  pub limit : ℕ
  pub entries : List Entry
