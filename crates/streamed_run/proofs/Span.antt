-- When the ticks of an advance tell what they log, and make their switches.
use Rattle.std.proofs.Common.{◌≡◌, ℕ, zero, suc, ◌+◌, ◌≤◌, true, false, cond, List, [], ◌∷◌, refl, arith}
use Rattle.std.specs.Prelude.{All}
use Rattle.std.proofs.lemmas.List.Elements.{All-nil, All-cons, All-append, All-weaker}
use Rattle.edf_pick.specs.Places.{Places, placed}
use Rattle.domain_run.specs.declared.task.Task.{Task}
use Rattle.domain_run.specs.declared.happened.Happened.{Happened}
use Rattle.domain_run.specs.Switch.{Switch}
use Rattle.edf_pick.specs.Moves.{same_occupant}
use Rattle.domain_run.specs.Switches.{prev_state_of, switches_from}
use Rattle.domain_run.specs.Domain.{Domain}
use Rattle.domain_run.specs.Tick.{candidates, prepared, with_tick_begun, ticks}
use Rattle.domain_run.specs.Happened.{logged_by_beginning, logged_by_end, logged_by_tick, logged_by_ticks}
use Rattle.domain_run.proofs.CallerLemmas.{ticks_time, IsBeginning, IsEnd, beginning_is, ending_is}

-- from one time to another
abbrev pub IsWithin : ℕ → ℕ → Happened → Type 0
IsWithin low high h = (low ≤ h.time) × (h.time ≤ high)

tick_within : (low : ℕ) (d : Domain) → low ≤ d.time → All (IsWithin low (d.time + 1)) (logged_by_tick d)
tick_within low d from =
    All-append (IsWithin low (d.time + 1)) (logged_by_beginning d) (logged_by_end (with_tick_begun d))
    (All-weaker (IsBeginning d.time) (IsWithin low (d.time + 1)) (λ h is. (omega (arith, is.0, from), omega (arith, is.0))) (logged_by_beginning d) (beginning_is d))
    (All-weaker (IsEnd (d.time + 1)) (IsWithin low (d.time + 1)) (λ h is. (omega (arith, is.0, from), omega (arith, is.0))) (logged_by_end (with_tick_begun d)) (ending_is (with_tick_begun d)))

-- what ticks log is not before the first of them, and not after the end of the last
pub logged_within : (n : ℕ) (d : Domain) → All (IsWithin d.time (d.time + n)) (logged_by_ticks n d)
logged_within zero d = All-nil (IsWithin d.time (d.time + 0))
logged_within (suc n) d =
    let e = ticks n d in
    let at : e.time ≡ d.time + n = ticks_time n d in
    All-append (IsWithin d.time (d.time + suc n)) (logged_by_ticks n d) (logged_by_tick e)
    (All-weaker (IsWithin d.time (d.time + n)) (IsWithin d.time (d.time + suc n)) (λ h is. (is.0, omega (arith, is.1))) (logged_by_ticks n d) (logged_within n d))
    (All-weaker (IsWithin d.time (e.time + 1)) (IsWithin d.time (d.time + suc n)) (λ h is. (is.0, omega (arith, is.1, at))) (logged_by_tick e) (tick_within d.time e (omega (arith, at))))

-- the switches of a tick are made at its time
switches_at : (time : ℕ) (tasks : List Task) (cpu : ℕ) (before after : Places) → All (λ s. s.time ≡ time) (switches_from time tasks cpu before after)
switches_at time tasks cpu [] after = All-nil _
switches_at time tasks cpu (p ∷ before) [] = All-nil _
switches_at time tasks cpu (p ∷ before) (n ∷ after) =
    let P : Switch → Type 0 = λ s. s.time ≡ time in
    let more = switches_from time tasks (cpu + 1) before after in
    let s : Switch = record { time = time; prev = p; next = n; cpu = cpu; state = prev_state_of tasks p } in
    let rest : All P more = switches_at time tasks (cpu + 1) before after in
    elim (same_occupant p n) as (λ b. All P (cond b more (s ∷ more))) [
      | true ↦ rest
      | false ↦ All-cons P s more refl rest
    ]

-- where a domain has forgotten its switches, those that ticks make are not before the first of them
pub made_later : (n : ℕ) (d : Domain) → d.switches ≡ [] → All (λ s. d.time ≤ s.time) (ticks n d).switches
made_later zero d none = rw none (All-nil _)
made_later (suc n) d none =
    let P : Switch → Type 0 = λ s. d.time ≤ s.time in
    let e = ticks n d in
    let tasks = prepared e.time e.tasks in
    let more = switches_from e.time tasks 0 e.curr (placed e.cpus (candidates tasks) e.curr) in
    let at : e.time ≡ d.time + n = ticks_time n d in
    All-append P e.switches more (made_later n d none)
    (All-weaker (λ s. s.time ≡ e.time) P (λ s is. omega (arith, is, at)) more (switches_at e.time tasks 0 e.curr (placed e.cpus (candidates tasks) e.curr)))
