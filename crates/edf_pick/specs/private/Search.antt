-- A search in the order of the choice.
use Rattle.std.specs.Prelude.{ℕ, ◌≡◌, ◌+◌, ◌<◌, ◌≤◌, true, false, List, length, slice_index_or}
use Rattle.edf_pick.specs.declared.candidate.Candidate.{Candidate}
use Rattle.edf_pick.specs.Choice.{is_before}

-- those below a place are before c, and those from so many further on are not
pub record IsSearched (c : Candidate) (queue : List Candidate) (place width : ℕ) : Type 0 where
  pub bound : place + width ≤ length queue
  pub below : (k : ℕ) (d : Candidate) → k < place → is_before (slice_index_or queue k d) c ≡ true
  pub above : (k : ℕ) (d : Candidate) → place + width ≤ k → k < length queue
      → is_before (slice_index_or queue k d) c ≡ false

-- one for the task at a place that is before c, none for another
pub record IsOneBefore (c : Candidate) (queue : List Candidate) (place n : ℕ) : Type 0 where
  pub most : n ≤ 1
  pub early : 0 < n → is_before (slice_index_or queue place c) c ≡ true
  pub late : n ≡ 0 → is_before (slice_index_or queue place c) c ≡ false
