-- How those who stay are kept: a word with a mark for each CPU on which one stays, and the keys of
-- all CPUs.
use Rattle.std.specs.Prelude.{ℕ, suc, ◌≡◌, ◌<◌, ◌≤◌, ◌+◌, ◌*◌, ◌==◌, false, if◌then◌else◌, List, [], ◌∷◌, length, take, slice_index_or, Option, Some, None}
use Rattle.std.specs.Int.{bit_at}
use Rattle.edf_pick.specs.declared.candidate.Candidate.{Candidate}
use Rattle.edf_pick.specs.Choice.{is_before}
use Rattle.edf_pick.specs.private.Ready.{all_held}

-- the key where nobody stays: no task is before it
abbrev pub bare_key : Candidate
bare_key = record { deadline = 0; number = 0; home = 0 }

abbrev pub stay_of : ℕ → Candidate → Option Candidate
stay_of mark key = if mark == 1 then Some key else None

-- who stays on each CPU: the keys at the marked places
abbrev pub stays_of : (ℕ → ℕ) → List Candidate → List (Option Candidate)
stays_of mark [] = []
stays_of mark (key ∷ keys) = stay_of (mark 0) key ∷ stays_of (λ i. mark (suc i)) keys

-- no key from one place up to another is after it, and one is it
pub record IsLatest (keys : List Candidate) (from to : ℕ) (c : Candidate) : Type 0 where
  pub bound : (k : ℕ) → from ≤ k → k < to → is_before c (slice_index_or keys k bare_key) ≡ false
  pub there : (k : ℕ) × (from ≤ k) × (k < to) × (slice_index_or keys k bare_key ≡ c)

-- who stays on a CPU belongs to it; the latest of each eight is known, or the eight are marked; and
-- no key is after the top
pub record IsRunningSet (cpus busy marks : ℕ) (keys most : List Candidate) (unknown : ℕ)
    (top : Candidate) : Type 0 where
  pub few : cpus ≤ 64
  pub full : length keys ≡ 64
  pub eight : length most ≡ 8
  pub many : busy ≡ length (all_held (stays_of (bit_at marks) (take cpus keys)))
  pub within : (cpu : ℕ) → bit_at marks cpu ≡ 1 → cpu < cpus
  pub home : (cpu : ℕ) → bit_at marks cpu ≡ 1 → (slice_index_or keys cpu bare_key).home ≡ cpu
  pub bare : (cpu : ℕ) → bit_at marks cpu ≡ 0 → slice_index_or keys cpu bare_key ≡ bare_key
  pub groups : (g : ℕ) → bit_at unknown g ≡ 1 → g < 8
  pub known : (g : ℕ) → g < 8 → bit_at unknown g ≡ 0
      → IsLatest keys (8 * g) (8 * g + 8) (slice_index_or most g bare_key)
  pub last : (cpu : ℕ) → is_before top (slice_index_or keys cpu bare_key) ≡ false
