-- A cursor that keeps to the first round of a script without end has the same work ahead.
use Rattle.std.proofs.Common.{◌≡◌, ℕ, zero, suc, ◌+◌, ◌-◌, ◌*◌, ◌%◌, ◌<◌, ◌≤◌, List, [], ◌∷◌, ◌++◌, length, Option, Some, None, refl, sym, ap, subst, ◌∙◌, arith, inl, inr, length-append, sum_by}
use Rattle.std.specs.Prelude.{slice_get, All}
use Rattle.std.specs.List.{repeat}
use Rattle.std.proofs.Math.Nat.{mod-eq_of_lt, add-mod_left, mod-mod, mod-add-mod, suc-mul, le-mul_of_pos_right, mul-pos}
use Rattle.std.proofs.lemmas.Bool.{cases_lt}
use Rattle.std.proofs.lemmas.List.Sums.{sum_by-cons}
use Rattle.std.proofs.lemmas.List.Elements.{All-nil, All-append, All-head, All-tail}
use Rattle.task_script.specs.declared.phase.Event.{Event}
use Rattle.task_script.specs.script.ScriptView.{PhaseView, ScriptView, IsEvent, IsPhase, IsScript, script_of, phase_len, round_len}
use Rattle.task_script.specs.script.Unrolled.{round_of, rounds_for, event_at}
use Rattle.task_script.specs.script.Segments.{first_place}
use Rattle.deadline_promise.specs.KeptBudget.{work_with, work_from}

get_left : (xs ys : List Event) (i : ℕ) → i < length xs → slice_get (xs ++ ys) i ≡ slice_get xs i
get_left [] ys i h = absurd (omega (arith, h))
get_left (x ∷ xs) ys zero h = refl
get_left (x ∷ xs) ys (suc i) h = get_left xs ys i (omega (arith, h))

get_right : (xs ys : List Event) (i : ℕ) → length xs ≤ i → slice_get (xs ++ ys) i ≡ slice_get ys (i - length xs)
get_right [] ys i h = ap (slice_get ys) (omega arith)
get_right (x ∷ xs) ys zero h = absurd (omega (arith, h))
get_right (x ∷ xs) ys (suc i) h = get_right xs ys i (omega (arith, h)) ∙ ap (slice_get ys) (omega arith)

pub length_repeat : (n : ℕ) (xs : List Event) → length (repeat n xs) ≡ n * length xs
length_repeat zero xs = omega arith
length_repeat (suc n) xs =
    let both = length-append xs (repeat n xs) in
    let rest = length_repeat n xs in
    let times = suc-mul n (length xs) in
    omega arith

-- in a list that is repeated, each time is as the first
pub get_repeat : (n : ℕ) (xs : List Event) (i : ℕ) → i < n * length xs → slice_get (repeat n xs) i ≡ slice_get xs (i % length xs)
get_repeat zero xs i h = absurd (omega (arith, h))
get_repeat (suc n) xs i h = elim (cases_lt i (length xs)) [
  | inl first ↦ get_left xs (repeat n xs) i first ∙ ap (slice_get xs) (sym (mod-eq_of_lt first))
  | inr after ↦
      let rest : i - length xs < n * length xs = omega (arith, suc-mul n (length xs), h) in
      let back : length xs + (i - length xs) ≡ i = omega arith in
      get_right xs (repeat n xs) i after ∙ get_repeat n xs (i - length xs) rest ∙ ap (slice_get xs) (sym (add-mod_left (length xs) (i - length xs)) ∙ ap (λ k. k % length xs) back)
]

pub length_round : (phases : List PhaseView) → length (round_of phases) ≡ sum_by phase_len phases
length_round [] = refl
length_round (p ∷ ps) =
    let all = length-append (repeat p.count p.events) (round_of ps) in
    let one = length_repeat p.count p.events in
    let rest = length_round ps in
    let sum = sum_by-cons phase_len p ps in
    all ∙ ap (λ n. n + length (round_of ps)) one ∙ ap (λ n. p.count * length p.events + n) rest ∙ sym sum

-- a round has an event
some_phase : (p : PhaseView) → IsPhase p → 0 < phase_len p
some_phase p h = mul-pos h.some h.some_events

pub some_round : (s : ScriptView) → IsScript s → 0 < round_len s
some_round s h = go s.phases h.some_phases h.phases where
  go : (phases : List PhaseView) → 0 < length phases → All IsPhase phases → 0 < sum_by phase_len phases
  go [] some all = omega (arith, some)
  go (p ∷ ps) some all = let sum = sum_by-cons phase_len p ps in omega (arith, sum, some_phase p (all 0 p (omega arith)))

-- without end each place has the event of that place of the first round
pub event_for_ever : (phases : List PhaseView) (place : ℕ) → 0 < sum_by phase_len phases → event_at (script_of None phases) place ≡ slice_get (round_of phases) (place % sum_by phase_len phases)
event_for_ever phases place some =
    let long = length_round phases in
    let wide : place + 1 ≤ (place + 1) * sum_by phase_len phases = le-mul_of_pos_right (place + 1) some in
    let within : place < (place + 1) * length (round_of phases) = rw long (omega (arith, wide)) in
    get_repeat (place + 1) (round_of phases) place within ∙ ap (λ n. slice_get (round_of phases) (place % n)) long

event_by_place : (phases : List PhaseView) (i j : ℕ) → 0 < sum_by phase_len phases → i % sum_by phase_len phases ≡ j % sum_by phase_len phases → event_at (script_of None phases) i ≡ event_at (script_of None phases) j
event_by_place phases i j some e = event_for_ever phases i some ∙ ap (slice_get (round_of phases)) e ∙ sym (event_for_ever phases j some)

work_by_place : (phases : List PhaseView) (count i j : ℕ) → 0 < sum_by phase_len phases → i % sum_by phase_len phases ≡ j % sum_by phase_len phases → work_from (script_of None phases) i count ≡ work_from (script_of None phases) j count
work_by_place phases zero i j some e = refl
work_by_place phases (suc count) i j some e =
    let round = sum_by phase_len phases in
    let s = script_of None phases in
    let next : (i + 1) % round ≡ (j + 1) % round = sym (mod-add-mod i round 1) ∙ ap (λ n. (n + 1) % round) e ∙ mod-add-mod j round 1 in
    ap (λ o. work_with o (work_from s (i + 1) count)) (event_by_place phases i j some e)
    ∙ ap (work_with (event_at s j)) (work_by_place phases count (i + 1) (j + 1) some next)

-- from where a cursor is kept the same work is ahead
pub work_kept : (s : ScriptView) (place count : ℕ) → IsScript s → work_from s (first_place s.rounds (round_len s) place) count ≡ work_from s place count
work_kept s place count h = go s.rounds s.phases (some_round s h) where
  go : (rounds : Option ℕ) (phases : List PhaseView) → 0 < sum_by phase_len phases → work_from (script_of rounds phases) (first_place rounds (sum_by phase_len phases) place) count ≡ work_from (script_of rounds phases) place count
  go None phases some = work_by_place phases count (place % sum_by phase_len phases) place some (mod-mod place (sum_by phase_len phases))
  go (Some n) phases some = refl

-- ---- each event is within its limits

slice_all : (P : Event → Type 0) (xs : List Event) (i : ℕ) (v : Event) → All P xs → slice_get xs i ≡ Some v → P v
slice_all P [] i v all e = absurd cc
slice_all P (x ∷ xs) zero v all e = let same : x ≡ v = cc in subst P same (All-head P x xs all)
slice_all P (x ∷ xs) (suc i) v all e = slice_all P xs i v (All-tail P x xs all) e

pub repeat_all : (P : Event → Type 0) (n : ℕ) (xs : List Event) → All P xs → All P (repeat n xs)
repeat_all P zero xs all = All-nil P
repeat_all P (suc n) xs all = All-append P xs (repeat n xs) all (repeat_all P n xs all)

round_all : (phases : List PhaseView) → All IsPhase phases → All IsEvent (round_of phases)
round_all [] all = All-nil IsEvent
round_all (p ∷ ps) all =
    let head = All-head IsPhase p ps all in
    All-append IsEvent (repeat p.count p.events) (round_of ps) (repeat_all IsEvent p.count p.events head.events) (round_all ps (All-tail IsPhase p ps all))

pub event_is : (s : ScriptView) (place : ℕ) (v : Event) → IsScript s → event_at s place ≡ Some v → IsEvent v
event_is s place v h e =
    slice_all IsEvent (repeat (rounds_for s.rounds place) (round_of s.phases)) place v
    (repeat_all IsEvent (rounds_for s.rounds place) (round_of s.phases) (round_all s.phases h.phases)) e
