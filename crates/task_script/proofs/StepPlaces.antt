-- The steps of a script: where that of an event stands, and how many are before a phase.
use Rattle.std.proofs.Common.{slice_index_or, ◌≡◌, ℕ, zero, suc, ◌+◌, ◌*◌, ◌<◌, ◌≤◌, List, [], ◌∷◌, ◌++◌, length, Some, refl, sym, ap, ◌∙◌, arith, inl, inr, length-append}
use Rattle.std.proofs.lemmas.List.{append_assoc}
use Rattle.std.specs.Prelude.{slice_get}
use Rattle.std.proofs.lemmas.Bool.{cases_lt, le-leb, lt-leb}
use Rattle.task_script.specs.declared.phase.Event.{Event}
use Rattle.task_script.specs.declared.phase.Event.TheVariants.{Wait}
use Rattle.std.proofs.lemmas.Option.{slice_get_read, slice_get_within, get_or_from_slice_get}
use Rattle.task_script.specs.script.ScriptView.{PhaseView, ScriptView, IsScript}
use Rattle.task_script.specs.private.Steps.{StepView, step_in_phase, steps_of_phase, steps_of_phases, all_of_phase, no_phase, first_step_of, IsSteps}

get_left : (xs ys : List StepView) (i : ℕ) (x : StepView) → slice_get xs i ≡ Some x → slice_get (xs ++ ys) i ≡ Some x
get_left [] ys i x h = absurd cc
get_left (y ∷ xs) ys zero x h = h
get_left (y ∷ xs) ys (suc i) x h = get_left xs ys i x h

get_right : (xs ys : List StepView) (i k : ℕ) → k ≡ length xs + i → slice_get (xs ++ ys) k ≡ slice_get ys i
get_right [] ys i k h = ap (slice_get ys) (omega (arith, h))
get_right (x ∷ xs) ys i zero h = absurd (omega (arith, h))
get_right (x ∷ xs) ys i (suc k) h = get_right xs ys i k (omega (arith, h))

-- IN A PHASE

len_in_phase : (q : PhaseView) (n : ℕ) → length (steps_of_phase q n) ≡ n
len_in_phase q zero = refl
len_in_phase q (suc n) =
    let both = length-append (steps_of_phase q n) (step_in_phase q n ∷ []) in
    let rest = len_in_phase q n in
    omega (arith, both, rest)

at_in_phase : (q : PhaseView) (n j : ℕ) → j < n → slice_get (steps_of_phase q n) j ≡ Some (step_in_phase q j)
at_in_phase q zero j h = absurd (omega (arith, h))
at_in_phase q (suc n) j h = elim (cases_lt j n) [
  | inl before ↦ get_left (steps_of_phase q n) (step_in_phase q n ∷ []) j (step_in_phase q j) (at_in_phase q n j before)
  | inr behind ↦
      let same : j ≡ n = omega (arith, h, behind) in
      let place : j ≡ length (steps_of_phase q n) + 0 = omega (arith, len_in_phase q n, same) in
      get_right (steps_of_phase q n) (step_in_phase q n ∷ []) 0 j place ∙ ap (λ k. Some (step_in_phase q k)) (sym same)
]

pub more_of_phase : (q : PhaseView) (n : ℕ) (before : List StepView) → (before ++ steps_of_phase q n) ++ step_in_phase q n ∷ [] ≡ before ++ steps_of_phase q (n + 1)
more_of_phase q n before =
    let next : suc n ≡ n + 1 = omega arith in
    append_assoc before (steps_of_phase q n) (step_in_phase q n ∷ []) ∙ ap (λ k. before ++ steps_of_phase q k) next

-- an event as a loop reads it
same_at : (events : List Event) (n : ℕ) (event : Event) → n < length events → event ≡ slice_index_or events n event → slice_index_or events n Wait ≡ event
same_at [] n event h is = absurd (omega (arith, h))
same_at (e ∷ es) zero event h is = sym is
same_at (e ∷ es) (suc n) event h is = same_at es n event (omega (arith, h)) is

early_step : (q : PhaseView) (n : ℕ) (event : Event) → n + 1 < length q.events → event ≡ slice_index_or q.events n event → record { event = event; laps = 0 } ≡ step_in_phase q n
early_step q n event h is =
    let more = lt-leb (length q.events) (n + 1) h in
    rw (same_at q.events n event (omega (arith, h)) is, more) refl

last_step : (q : PhaseView) (n : ℕ) (event : Event) → n + 1 ≡ length q.events → event ≡ slice_index_or q.events n event → record { event = event; laps = q.count } ≡ step_in_phase q n
last_step q n event h is =
    let none = le-leb (length q.events) (n + 1) (omega (arith, h)) in
    rw (same_at q.events n event (omega (arith, h)) is, none) refl

one_more : (q : PhaseView) (n : ℕ) (before so_far after : List StepView) (step : StepView) → so_far ≡ before ++ steps_of_phase q n → step ≡ step_in_phase q n → after ≡ so_far ++ step ∷ [] → after ≡ before ++ steps_of_phase q (n + 1)
one_more q n before so_far after step is made push = push ∙ ap (λ xs. xs ++ step ∷ []) is ∙ ap (λ t. (before ++ steps_of_phase q n) ++ t ∷ []) made ∙ more_of_phase q n before

pub early_added : (q : PhaseView) (n : ℕ) (event : Event) (before so_far after : List StepView) → n + 1 < length q.events → event ≡ slice_index_or q.events n event → so_far ≡ before ++ steps_of_phase q n → after ≡ so_far ++ record { event = event; laps = 0 } ∷ [] → after ≡ before ++ steps_of_phase q (n + 1)
early_added q n event before so_far after h is invariant push = one_more q n before so_far after (record { event = event; laps = 0 }) invariant (early_step q n event h is) push

pub last_added : (q : PhaseView) (n : ℕ) (event : Event) (before so_far after : List StepView) → n + 1 ≡ length q.events → event ≡ slice_index_or q.events n event → so_far ≡ before ++ steps_of_phase q n → after ≡ so_far ++ record { event = event; laps = q.count } ∷ [] → after ≡ before ++ steps_of_phase q (length q.events)
last_added q n event before so_far after h is invariant push = one_more q n before so_far after (record { event = event; laps = q.count }) invariant (last_step q n event h is) push ∙ ap (λ k. before ++ steps_of_phase q k) h

-- IN A SCRIPT

is_phase : (phases : List PhaseView) (i : ℕ) (q : PhaseView) → slice_get phases i ≡ Some q → slice_index_or phases i no_phase ≡ q
is_phase phases i q at = get_or_from_slice_get phases i q no_phase at

step_at : (phases : List PhaseView) (n i j : ℕ) (q : PhaseView) → slice_get phases i ≡ Some q → i < n → j < length q.events → slice_get (steps_of_phases phases n) (first_step_of phases i + j) ≡ Some (step_in_phase q j)
step_at phases zero i j q at less h = absurd (omega (arith, less))
step_at phases (suc n) i j q at less h = elim (cases_lt i n) [
  | inl before ↦ get_left (steps_of_phases phases n) (all_of_phase (slice_index_or phases n no_phase)) (first_step_of phases i + j) (step_in_phase q j) (step_at phases n i j q at before h)
  | inr behind ↦
      let same : i ≡ n = omega (arith, less, behind) in
      let here : slice_index_or phases n no_phase ≡ q = ap (λ k. slice_index_or phases k no_phase) (sym same) ∙ is_phase phases i q at in
      ap (λ k. slice_get (steps_of_phases phases (suc n)) (first_step_of phases k + j)) same
      ∙ get_right (steps_of_phases phases n) (all_of_phase (slice_index_or phases n no_phase)) j (first_step_of phases n + j) refl
      ∙ ap (λ r. slice_get (all_of_phase r) j) here
      ∙ at_in_phase q (length q.events) j h
]

-- the step of an event, where there are steps
pub step_there : (s : ScriptView) (steps : List StepView) (i j : ℕ) (q : PhaseView) → IsSteps s steps → 0 < length steps → slice_get s.phases i ≡ Some q → j < length q.events → slice_get steps (first_step_of s.phases i + j) ≡ Some (step_in_phase q j)
step_there s steps i j q is some at h =
    ap (λ xs. slice_get xs (first_step_of s.phases i + j)) (is some) ∙ step_at s.phases (length s.phases) i j q at (slice_get_within s.phases i q at) h

pub next_first : (phases : List PhaseView) (i : ℕ) (q : PhaseView) → slice_get phases i ≡ Some q → (event : ℕ) → event + 1 ≡ length q.events → first_step_of phases i + (event + 1) ≡ first_step_of phases (i + 1)
next_first phases i q at event last =
    let r = slice_index_or phases i no_phase in
    let both = length-append (steps_of_phases phases i) (all_of_phase r) in
    let one = len_in_phase r (length r.events) in
    let here : length r.events ≡ length q.events = ap (λ (u : PhaseView). length u.events) (is_phase phases i q at) in
    let next : suc i ≡ i + 1 = omega arith in
    sym (ap (first_step_of phases) (sym next) ∙ omega (arith, both, one, here, last))

pub more_of_phases : (phases : List PhaseView) (n : ℕ) (q : PhaseView) → n < length phases → q ≡ slice_index_or phases n q → steps_of_phases phases n ++ all_of_phase q ≡ steps_of_phases phases (n + 1)
more_of_phases phases n q within is =
    let next : suc n ≡ n + 1 = omega arith in
    let at : slice_get phases n ≡ Some q = slice_get_read phases (length phases) n q refl within is in
    ap (λ r. steps_of_phases phases n ++ all_of_phase r) (sym (is_phase phases n q at)) ∙ ap (steps_of_phases phases) next

-- FEW

few : (s : ScriptView) → IsScript s → (n : ℕ) → n ≤ length s.phases → first_step_of s.phases n ≤ 64 * n
few s h zero within = omega arith
few s h (suc n) within =
    let r = slice_index_or s.phases n no_phase in
    let both = length-append (steps_of_phases s.phases n) (all_of_phase r) in
    let one = len_in_phase r (length r.events) in
    let most = (h.phases n no_phase (omega (arith, within))).most_events in
    let rest = few s h n (omega (arith, within)) in
    omega (arith, both, one, most, rest)

pub first_fits : (s : ScriptView) → IsScript s → (n : ℕ) → n ≤ length s.phases → first_step_of s.phases n ≤ 4096
first_fits s h n within =
    let less = few s h n within in
    let most = h.most_phases in
    omega (arith, less, most, within)
