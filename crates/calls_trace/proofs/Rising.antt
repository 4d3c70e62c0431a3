-- The switches of the whole run of a section rise strictly by time and CPU, and are few: by the
-- rules alone, whoever keeps them.
use Rattle.std.proofs.Common.{◌≡◌, ℕ, zero, suc, ◌+◌, ◌*◌, ◌^◌, ◌<◌, ◌≤◌, Bool, true, false, cond, ltb, ◌||◌, Option, List, [], ◌∷◌, ◌++◌, length, get_or, refl, sym, arith, eq-eqb, length-append}
use Rattle.std.specs.Prelude.{All, AllPairs, IsTrue}
use Rattle.std.proofs.lemmas.Bool.{lt-ltb}
use Rattle.std.proofs.lemmas.List.Elements.{All-nil, All-cons, All-append, All-weaker}
use Rattle.std.proofs.lemmas.List.Kept.{AllPairs-cons}
use Rattle.domain_run.specs.declared.task.Task.{Task}
use Rattle.domain_run.specs.Switch.{Switch}
use Rattle.domain_run.specs.declared.call.Call.{Call}
use Rattle.domain_run.specs.declared.call.Call.TheVariants.{Admit, Regrade, Wake, Leave, Advance, Limit, Depart, Arrive}
use Rattle.domain_run.specs.Domain.{Domain, empty_domain}
use Rattle.edf_pick.specs.Moves.{same_occupant}
use Rattle.domain_run.specs.Switches.{prev_state_of, switches_from, is_switch_before}
use Rattle.domain_run.specs.Tick.{prepared, ticked, ticks}
use Rattle.domain_run.specs.Calls.{reply_to, is_refusal, after_granted, after_call}
use Rattle.domain_run.specs.Run.{after_calls}
use Rattle.domain_run.proofs.CallerLemmas.{AllPairs-append, before_time, HasKnown, has_call, has_opened}
use Rattle.calls_text.specs.SectionView.{SectionView}
use Rattle.calls_text.specs.Limits.{IsSection}
use Rattle.calls_trace.specs.Replay.{calls_in_section}
use Rattle.calls_trace.specs.DomainEvents.{domain_of}

abbrev Rises : Switch → Switch → Type 0
Rises a b = IsTrue (is_switch_before a b)

-- ---- those of a tick

-- of this time, on this CPU or a higher one
abbrev IsFrom : ℕ → ℕ → Switch → Type 0
IsFrom time low s = (s.time ≡ time) × (low ≤ s.cpu)

or_true : (b : Bool) → (b || true) ≡ true
or_true true = refl
or_true false = refl

before_same : (a b : Switch) → a.time ≡ b.time → a.cpu < b.cpu → is_switch_before a b ≡ true
before_same a b e h = rw (eq-eqb a.time b.time e, lt-ltb a.cpu b.cpu h) (or_true (ltb a.time b.time))

tick_from : (time : ℕ) (tasks : List Task) (cpu : ℕ) (before after : List (Option ℕ)) → All (IsFrom time cpu) (switches_from time tasks cpu before after)
tick_from time tasks cpu [] after = All-nil (IsFrom time cpu)
tick_from time tasks cpu (p ∷ before) [] = All-nil (IsFrom time cpu)
tick_from time tasks cpu (p ∷ before) (n ∷ after) =
    let more = switches_from time tasks (cpu + 1) before after in
    let s : Switch = record { time = time; prev = p; next = n; cpu = cpu; state = prev_state_of tasks p } in
    let rest : All (IsFrom time cpu) more = All-weaker (IsFrom time (cpu + 1)) (IsFrom time cpu) (λ x h. (h.0, omega (arith, h.1))) more (tick_from time tasks (cpu + 1) before after) in
    let one : IsFrom time cpu s = (refl, omega arith) in
    elim (same_occupant p n) as (λ b. All (IsFrom time cpu) (cond b more (s ∷ more))) [
      | true ↦ rest
      | false ↦ All-cons (IsFrom time cpu) s more one rest
    ]

tick_rises : (time : ℕ) (tasks : List Task) (cpu : ℕ) (before after : List (Option ℕ)) → AllPairs Rises (switches_from time tasks cpu before after)
tick_rises time tasks cpu [] after = λ i j d less within. absurd (omega arith)
tick_rises time tasks cpu (p ∷ before) [] = λ i j d less within. absurd (omega arith)
tick_rises time tasks cpu (p ∷ before) (n ∷ after) =
    let more = switches_from time tasks (cpu + 1) before after in
    let s : Switch = record { time = time; prev = p; next = n; cpu = cpu; state = prev_state_of tasks p } in
    let rest : AllPairs Rises more = tick_rises time tasks (cpu + 1) before after in
    let first : All (Rises s) more = All-weaker (IsFrom time (cpu + 1)) (Rises s) (λ x h. before_same s x (sym h.0) (omega (arith, h.1))) more (tick_from time tasks (cpu + 1) before after) in
    elim (same_occupant p n) as (λ b. AllPairs Rises (cond b more (s ∷ more))) [
      | true ↦ rest
      | false ↦ AllPairs-cons Rises s more first rest
    ]

tick_few : (time : ℕ) (tasks : List Task) (cpu : ℕ) (before after : List (Option ℕ)) → length (switches_from time tasks cpu before after) ≤ length before
tick_few time tasks cpu [] after = omega arith
tick_few time tasks cpu (p ∷ before) [] = omega arith
tick_few time tasks cpu (p ∷ before) (n ∷ after) =
    let more = switches_from time tasks (cpu + 1) before after in
    let rest : length more ≤ length before = tick_few time tasks (cpu + 1) before after in
    let s : Switch = record { time = time; prev = p; next = n; cpu = cpu; state = prev_state_of tasks p } in
    elim (same_occupant p n) as (λ b. length (cond b more (s ∷ more)) ≤ length (p ∷ before)) [
      | true ↦ omega (arith, rest)
      | false ↦ omega (arith, rest)
    ]

-- ---- those of a run

-- before its time, in order, and at most one for each CPU and time
pub record IsTrace (d : Domain) : Type 0 where
  pub past : All (λ s. s.time < d.time) d.switches
  pub rising : AllPairs (λ a b. IsTrue (is_switch_before a b)) d.switches
  pub few : length d.switches ≤ d.time * 64

with_tick : (d : Domain) (tasks ran : List Task) (places : List (Option ℕ)) → length d.curr ≤ 64 → IsTrace d
    → IsTrace (record d { time = d.time + 1; tasks = ran; curr = places; switches = d.switches ++ switches_from d.time tasks 0 d.curr places })
with_tick d tasks ran places wide is =
    let more = switches_from d.time tasks 0 d.curr places in
    let here = tick_from d.time tasks 0 d.curr places in
    let P : Switch → Type 0 = λ s. s.time < d.time + 1 in
    record {
      past = All-append P d.switches more
          (All-weaker (λ (s : Switch). s.time < d.time) P (λ s h. omega (arith, h)) d.switches is.past)
          (All-weaker (IsFrom d.time 0) P (λ s h. omega (arith, h.0)) more here);
      rising = AllPairs-append Rises d.switches more is.rising (tick_rises d.time tasks 0 d.curr places)
          (λ i j x h k. before_time (get_or d.switches i x) (get_or more j x) (omega (arith, is.past i x h, (here j x k).0)));
      few = omega (arith, length-append d.switches more, tick_few d.time tasks 0 d.curr places, wide, is.few);
    }

-- what a run keeps, on at most 64 CPUs
record IsRunning (d : Domain) : Type 0 where
  known : HasKnown d
  most : d.cpus ≤ 64
  trace : IsTrace d

ticks_keep : (n : ℕ) (d : Domain) → HasKnown d → d.cpus ≤ 64 → IsTrace d → IsRunning (ticks n d)
ticks_keep zero d has most is = record { known = has; most = most; trace = is }
ticks_keep (suc n) d has most is =
    let e : Domain = ticks n d in
    let so_far : IsRunning e = ticks_keep n d has most is in
    record {
      known = has_call d (Advance (suc n)) has;
      most = so_far.most;
      trace = with_tick e (prepared e.time e.tasks) (ticked e).tasks (ticked e).curr (omega (arith, so_far.known.wide, so_far.most)) so_far.trace;
    }

same_trace : (d e : Domain) → e.time ≡ d.time → e.switches ≡ d.switches → IsTrace d → IsTrace e
same_trace d e time switches is = record {
  past = rw (time, switches) is.past;
  rising = rw switches is.rising;
  few = rw (time, switches) is.few;
}

still : (b : Bool) (d e : Domain) → e.time ≡ d.time → e.switches ≡ d.switches → e.cpus ≡ d.cpus → HasKnown (cond b d e) → IsRunning d → IsRunning (cond b d e)
still true d e time switches cpus has is = is
still false d e time switches cpus has is = record { known = has; most = omega (arith, cpus, is.most); trace = same_trace d e time switches is.trace }

call_keeps : (d : Domain) (c : Call) → IsRunning d → IsRunning (after_call d c)
call_keeps d (Admit number name params delay script) is =
    let c = Admit number name params delay script in still (is_refusal (reply_to d c)) d (after_granted d c) refl refl refl (has_call d c is.known) is
call_keeps d (Regrade number params word) is =
    let c = Regrade number params word in still (is_refusal (reply_to d c)) d (after_granted d c) refl refl refl (has_call d c is.known) is
call_keeps d (Wake number) is = let c = Wake number in still (is_refusal (reply_to d c)) d (after_granted d c) refl refl refl (has_call d c is.known) is
call_keeps d (Leave number) is = let c = Leave number in still (is_refusal (reply_to d c)) d (after_granted d c) refl refl refl (has_call d c is.known) is
call_keeps d (Advance n) is = ticks_keep n d is.known is.most is.trace
call_keeps d (Limit limit word) is = let c = Limit limit word in still (is_refusal (reply_to d c)) d (after_granted d c) refl refl refl (has_call d c is.known) is
call_keeps d (Depart number) is = let c = Depart number in still (is_refusal (reply_to d c)) d (after_granted d c) refl refl refl (has_call d c is.known) is
call_keeps d (Arrive number name params script) is =
    let c = Arrive number name params script in still (is_refusal (reply_to d c)) d (after_granted d c) refl refl refl (has_call d c is.known) is

calls_keep : (d : Domain) (cs : List Call) → IsRunning d → IsRunning (after_calls d cs)
calls_keep d [] is = is
calls_keep d (c ∷ cs) is = calls_keep (after_call d c) cs (call_keeps d c is)

opened_runs : (cpus limit : ℕ) → 0 < cpus → cpus ≤ 64 → IsRunning (empty_domain cpus limit)
opened_runs cpus limit some most = record {
  known = has_opened cpus limit some;
  most = most;
  trace = record {
    past = All-nil (λ (s : Switch). s.time < 0);
    rising = λ i j d less within. absurd (omega (arith, within));
    few = omega arith;
  };
}

-- the run of a section
pub section_trace : (s : SectionView) → IsSection s → IsTrace (domain_of s)
section_trace s is = (calls_keep (empty_domain s.cpus s.limit) (calls_in_section s) (opened_runs s.cpus s.limit is.some_cpus is.most_cpus)).trace
