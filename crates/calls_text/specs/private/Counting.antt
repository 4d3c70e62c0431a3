-- What a reader of a calls text counts.
use Rattle.std.specs.Prelude.{ℕ, ◌+◌, ◌*◌, ◌≤◌, List, slice_index}
use Rattle.limits.specs.Limits.{max_history}

-- at most 8 sections, each of at most 65536 calls and one line more; no client made more calls
-- than there are
pub record IsCounting (sections lines calls : ℕ) (made : List ℕ) : Type 0 where
  pub most : sections ≤ 8
  pub few : calls ≤ max_history
  pub counted : lines ≤ sections * 65537 + calls
  pub fewer : (k : ℕ) → slice_index made k ≤ calls
