-- The switches that are still to be made: what is made and what is to come is the whole, and what
-- is to come is not before the domain's time.
use Rattle.std.proofs.Common.{◌≡◌, ℕ, zero, suc, ◌+◌, ◌≤◌, Bool, true, false, cond, Option, List, [], ◌∷◌, ◌++◌, refl, sym, ap, ◌∙◌, append-nil, arith}
use Rattle.std.specs.Prelude.{All}
use Rattle.std.proofs.lemmas.List.Elements.{All-nil, All-cons, All-append, All-weaker}
use Rattle.domain_run.specs.declared.task.Task.{Task}
use Rattle.domain_run.specs.declared.call.Call.{Call}
use Rattle.domain_run.specs.declared.call.Call.TheVariants.{Admit, Regrade, Wake, Leave, Advance, Limit, Depart, Arrive}
use Rattle.domain_run.specs.Calls.{reply_to, is_refusal, after_granted, after_call}
use Rattle.domain_run.specs.Coming.{switches_to_come}
use Rattle.domain_run.specs.Domain.{Domain}
use Rattle.domain_run.specs.Passing.{with_past, without_switches}
use Rattle.domain_run.specs.Run.{after_calls}
use Rattle.domain_run.specs.Switch.{Switch}
use Rattle.domain_run.specs.Switches.{prev_state_of, switches_from}
use Rattle.domain_run.specs.Tick.{prepared, ticked, ticks}
use Rattle.domain_run.proofs.Passing.{ticks_after}
use Rattle.edf_pick.specs.Moves.{same_occupant}

-- so many ticks, and then so many more
pub ticks_then : (m k : ℕ) (d : Domain) → ticks k (ticks m d) ≡ ticks (m + k) d
ticks_then m zero d = let same : m ≡ m + 0 = omega arith in ap (λ n. ticks n d) same
ticks_then m (suc k) d = let next : suc (m + k) ≡ m + suc k = omega arith in ap ticked (ticks_then m k d) ∙ ap (λ n. ticks n d) next

-- ---- what is made and what is to come

pub to_come_after : (n : ℕ) (d : Domain) → (ticks n d).switches ≡ d.switches ++ switches_to_come n d
to_come_after n d =
    let past : with_past d.switches (without_switches d) ≡ d = ap (λ (ss : List Switch). record d { switches = ss }) (append-nil d.switches) in
    ap (λ (e : Domain). (ticks n e).switches) (sym past) ∙ ap (λ (e : Domain). e.switches) (ticks_after n d.switches (without_switches d))

-- where some of the ticks are made
pub to_come_more : (n made left : ℕ) (d e : Domain) → e ≡ ticks made d → made + left ≡ n → e.switches ++ switches_to_come left e ≡ d.switches ++ switches_to_come n d
to_come_more n made left d e is sum =
    sym (to_come_after left e) ∙ ap (λ (x : Domain). (ticks left x).switches) is ∙ ap (λ (x : Domain). x.switches) (ticks_then made left d)
    ∙ ap (λ (k : ℕ). (ticks k d).switches) sum ∙ to_come_after n d

-- ---- what is to come is not before now

tick_at : (time : ℕ) (tasks : List Task) (cpu : ℕ) (before after : List (Option ℕ)) → All (λ s. s.time ≡ time) (switches_from time tasks cpu before after)
tick_at time tasks cpu [] after = All-nil (λ (s : Switch). s.time ≡ time)
tick_at time tasks cpu (p ∷ before) [] = All-nil (λ (s : Switch). s.time ≡ time)
tick_at time tasks cpu (p ∷ before) (n ∷ after) =
    let P : Switch → Type 0 = λ s. s.time ≡ time in
    let more = switches_from time tasks (cpu + 1) before after in
    let s : Switch = record { time = time; prev = p; next = n; cpu = cpu; state = prev_state_of tasks p } in
    elim (same_occupant p n) as (λ b. All P (cond b more (s ∷ more))) [
      | true ↦ tick_at time tasks (cpu + 1) before after
      | false ↦ All-cons P s more refl (tick_at time tasks (cpu + 1) before after)
    ]

-- its time and its switches are not before this time
pub record IsFrom (low : ℕ) (d : Domain) : Type 0 where
  pub early : low ≤ d.time
  pub later : All (λ s. low ≤ s.time) d.switches

ticks_from : (low n : ℕ) (d : Domain) → IsFrom low d → IsFrom low (ticks n d)
ticks_from low zero d is = is
ticks_from low (suc n) d is =
    let e : Domain = ticks n d in
    let P : Switch → Type 0 = λ s. low ≤ s.time in
    let more = switches_from e.time (prepared e.time e.tasks) 0 e.curr (ticked e).curr in
    let so_far : IsFrom low e = ticks_from low n d is in
    record {
      early = omega (arith, so_far.early);
      later = All-append P e.switches more so_far.later
          (All-weaker (λ (s : Switch). s.time ≡ e.time) P (λ s h. omega (arith, h, so_far.early)) more (tick_at e.time (prepared e.time e.tasks) 0 e.curr (ticked e).curr));
    }

pub to_come_later : (n : ℕ) (d : Domain) → All (λ s. d.time ≤ s.time) (switches_to_come n d)
to_come_later n d = (ticks_from d.time n (without_switches d) (record { early = omega arith; later = All-nil (λ (s : Switch). d.time ≤ s.time) })).later

either : (low : ℕ) (b : Bool) (d e : Domain) → e.time ≡ d.time → e.switches ≡ d.switches → IsFrom low d → IsFrom low (cond b d e)
either low true d e time switches is = is
either low false d e time switches is = record { early = omega (arith, time, is.early); later = rw switches is.later }

call_from : (low : ℕ) (d : Domain) (c : Call) → IsFrom low d → IsFrom low (after_call d c)
call_from low d (Admit number name params delay script) is =
    let c = Admit number name params delay script in either low (is_refusal (reply_to d c)) d (after_granted d c) refl refl is
call_from low d (Regrade number params word) is =
    let c = Regrade number params word in either low (is_refusal (reply_to d c)) d (after_granted d c) refl refl is
call_from low d (Wake number) is = let c = Wake number in either low (is_refusal (reply_to d c)) d (after_granted d c) refl refl is
call_from low d (Leave number) is = let c = Leave number in either low (is_refusal (reply_to d c)) d (after_granted d c) refl refl is
call_from low d (Advance n) is = ticks_from low n d is
call_from low d (Limit limit word) is = let c = Limit limit word in either low (is_refusal (reply_to d c)) d (after_granted d c) refl refl is
call_from low d (Depart number) is = let c = Depart number in either low (is_refusal (reply_to d c)) d (after_granted d c) refl refl is
call_from low d (Arrive number name params script) is =
    let c = Arrive number name params script in either low (is_refusal (reply_to d c)) d (after_granted d c) refl refl is

calls_from : (low : ℕ) (d : Domain) (cs : List Call) → IsFrom low d → IsFrom low (after_calls d cs)
calls_from low d [] is = is
calls_from low d (c ∷ cs) is = calls_from low (after_call d c) cs (call_from low d c is)

-- nor are those that calls will make
pub calls_later : (d : Domain) (cs : List Call) → All (λ s. d.time ≤ s.time) (after_calls (without_switches d) cs).switches
calls_later d cs = (calls_from d.time (without_switches d) cs (record { early = omega arith; later = All-nil (λ (s : Switch). d.time ≤ s.time) })).later
