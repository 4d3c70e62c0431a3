-- A PERIOD Streamed AGAIN: a run that repeats gives the same happenings and switches in each
-- period, later by the length of a period (own).
use Rattle.std.specs.Prelude.{ℕ, zero, suc, ◌≡◌, ◌+◌, ◌*◌, ◌<◌, ◌≤◌, ◌++◌, List, [], map, All}
use Rattle.domain_run.specs.declared.happened.Happened.{Happened}
use Rattle.domain_run.specs.Switch.{Switch}
use Rattle.domain_run.specs.Later.{later_happened, later_switch}
use Rattle.run_figures.specs.Accounting.{AccountingView, IsNextPiece, with_piece}

-- a list given m times more, each time k microseconds later than the time before
abbrev pub more_of : {T : Type 0} → (ℕ → T → T) → ℕ → ℕ → List T → List T
more_of later k zero xs = []
more_of later k (suc m) xs = more_of later k m xs ++ map (later (suc m * k)) xs

abbrev pub more_logged : ℕ → ℕ → List Happened → List Happened
more_logged k m logged = more_of later_happened k m logged

abbrev pub more_switches : ℕ → ℕ → List Switch → List Switch
more_switches k m switches = more_of later_switch k m switches

-- the last period of k microseconds, streamed since a mark, and m more of them that can be streamed
pub record IsPeriodSince (k m : ℕ) (mark a : AccountingView) : Type 0 where
  pub logged : List Happened
  pub switches : List Switch
  -- the time at which the period begins
  pub from : ℕ
  pub streamed : a ≡ with_piece mark logged switches
  pub next : IsNextPiece mark logged switches
  pub more : IsNextPiece a (more_logged k m logged) (more_switches k m switches)
  pub logged_within : All (λ h. (from ≤ h.time) × (h.time ≤ from + k)) logged
  pub switched_within : All (λ s. (from ≤ s.time) × (s.time < from + k)) switches
  pub to_the_end : from + k + m * k ≤ a.time
