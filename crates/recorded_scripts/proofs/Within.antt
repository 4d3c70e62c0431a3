-- The script of jobs is within the limits of scripts.
use Rattle.std.proofs.Common.{◌≡◌, ℕ, zero, suc, ◌+◌, ◌-◌, ◌<◌, ◌≤◌, ⊎_elim, true, false, Bool, List, [], ◌∷◌, ◌++◌, length, take, drop, Option, Some, None, refl, sym, ap, ◌∙◌, arith}
use Rattle.std.specs.Prelude.{All, slice_get, nat_eq}
use Rattle.std.specs.List.{AllByRecursion}
use Rattle.std.proofs.lemmas.List.{length-append, length-take}
use Rattle.std.proofs.lemmas.Bool.{cases_Bool, and_parts, leb-true, ne_eqb, eq-eqb}
use Rattle.std.proofs.Math.Nat.{eq-zero-or-pos}
use Rattle.std.proofs.lemmas.List.Elements.{All-from_recursion}
use Rattle.task_script.specs.declared.phase.Event.{Event}
use Rattle.task_script.specs.declared.phase.Event.TheVariants.{Run, Timer, Wait}
use Rattle.task_script.specs.script.ScriptView.{PhaseView, ScriptView, IsEvent, IsPhase, IsScript}
use Rattle.recorded_jobs.specs.declared.job.Release.{Release}
use Rattle.recorded_scripts.specs.Scripts.{work_written, gap_events, events_of_one, events_after, events_at_end, last_events, first_release, last_release, events_of_jobs, first_phase, phases_of, script_of_jobs, is_short_release, are_short_after, are_short}

abbrev Each : List Event → Type 0
Each es = AllByRecursion IsEvent es

each_both : (xs ys : List Event) → Each xs → Each ys → Each (xs ++ ys)
each_both [] ys a b = b
each_both (x ∷ xs) ys a b = (a.0, each_both xs ys a.1 b)

each_take : (n : ℕ) (xs : List Event) → Each xs → Each (take n xs)
each_take zero [] h = tt
each_take zero (x ∷ xs) h = tt
each_take (suc n) [] h = tt
each_take (suc n) (x ∷ xs) h = (h.0, each_take n xs h.1)

each_drop : (n : ℕ) (xs : List Event) → Each xs → Each (drop n xs)
each_drop zero [] h = tt
each_drop zero (x ∷ xs) h = h
each_drop (suc n) [] h = tt
each_drop (suc n) (x ∷ xs) h = each_drop n xs h.1

gap_each : (gap : ℕ) → gap ≤ 1000000000 → Each (gap_events gap)
gap_each gap l =
    ⊎_elim (λ none. rw (eq-eqb gap 0 none) tt) (λ some. rw (ne_eqb gap 0 (λ e. omega (arith, e, some))) ((some, l), tt)) (eq-zero-or-pos gap)

one_each : (before : ℕ) (r : Release) → is_short_release before r ≡ true → Each (events_of_one before r)
one_each before r h =
    let p = and_parts _ _ h in
    let q = and_parts _ _ p.1 in
    each_both (gap_events (r.time - before)) (Run (work_written r.job) ∷ []) (gap_each (r.time - before) (leb-true _ _ p.0)) ((leb-true _ _ q.0, leb-true _ _ q.1), tt)

after_each : (before : ℕ) (rs : List Release) → are_short_after before rs ≡ true → Each (events_after before rs)
unfolding events_after are_short_after
after_each before [] h = tt
after_each before (r ∷ rs) h =
    let p = and_parts _ _ h in
    each_both (events_of_one before r) (events_after r.time rs) (one_each before r p.0) (after_each r.time rs p.1)

end_each : (o : Option ℕ) (gone : Bool) → Each (events_at_end o gone)
end_each None gone = tt
end_each (Some t) true = tt
end_each (Some t) false = (tt, tt)

last_each : (o : Option Release) → Each (last_events o)
last_each None = tt
last_each (Some r) = end_each r.job.«end» r.job.gone

events_each : (rs : List Release) → are_short rs ≡ true → Each (events_of_jobs rs)
events_each rs h = each_both (events_after (first_release rs) rs) (last_events (last_release rs)) (after_each (first_release rs) rs h) (last_each (last_release rs))

some_after : (before : ℕ) (rs : List Release) → 0 < length rs → 0 < length (events_after before rs)
unfolding events_after
some_after before [] l = absurd (omega (arith, l))
some_after before (r ∷ rs) l =
    let a = length-append (events_of_one before r) (events_after r.time rs) in
    let b = length-append (gap_events (r.time - before)) (Run (work_written r.job) ∷ []) in
    omega (arith, a, b)

some_events : (rs : List Release) → 0 < length rs → 0 < length (events_of_jobs rs)
some_events rs l =
    let some = some_after (first_release rs) rs l in
    let a = length-append (events_after (first_release rs) rs) (last_events (last_release rs)) in
    omega (arith, some, a)

-- ---- phases

abbrev EachPhase : List PhaseView → Type 0
EachPhase ps = AllByRecursion IsPhase ps

phases_both : (xs ys : List PhaseView) → EachPhase xs → EachPhase ys → EachPhase (xs ++ ys)
phases_both [] ys a b = b
phases_both (x ∷ xs) ys a b = (a.0, phases_both xs ys a.1 b)

first_each : (es : List Event) → Each es → EachPhase (first_phase es)
first_each [] h = tt
first_each (e ∷ es) h =
    let n = length-take 64 (e ∷ es) in (
      record {
        some = omega arith;
        most = omega arith;
        some_events = omega (arith, n);
        most_events = omega (arith, n);
        events = All-from_recursion IsEvent (take 64 (e ∷ es)) (each_take 64 (e ∷ es) h);
      },
      tt,
    )

phases_each : (n : ℕ) (es : List Event) → Each es → EachPhase (phases_of n es)
unfolding phases_of
phases_each zero es h = tt
phases_each (suc n) es h = phases_both (first_phase es) (phases_of n (drop 64 es)) (first_each es h) (phases_each n (drop 64 es) (each_drop 64 es h))

first_few : (es : List Event) → length (first_phase es) ≤ 1
first_few [] = omega arith
first_few (e ∷ es) = omega arith

phases_few : (n : ℕ) (es : List Event) → length (phases_of n es) ≤ n
unfolding phases_of
phases_few zero es = omega arith
phases_few (suc n) es =
    let a = length-append (first_phase es) (phases_of n (drop 64 es)) in
    let b = first_few es in
    let c = phases_few n (drop 64 es) in
    omega (arith, a, b, c)

phases_some : (n : ℕ) (es : List Event) → 0 < n → 0 < length es → 0 < length (phases_of n es)
unfolding phases_of
phases_some zero es k l = absurd (omega (arith, k))
phases_some (suc n) [] k l = absurd (omega (arith, l))
phases_some (suc n) (e ∷ es) k l = omega arith

pub script_within : (rs : List Release) → 0 < length rs → are_short rs ≡ true → IsScript (script_of_jobs rs)
script_within rs some short = record {
  rounds = (omega arith, omega arith);
  some_phases = phases_some 64 (events_of_jobs rs) (omega arith) (some_events rs some);
  most_phases = phases_few 64 (events_of_jobs rs);
  phases = All-from_recursion IsPhase (phases_of 64 (events_of_jobs rs)) (phases_each 64 (events_of_jobs rs) (events_each rs short));
}
