-- The events of a script by place, and that a cursor which keeps to the first round gives them.
use Rattle.std.proofs.Common.{◌≡◌, ℕ, zero, suc, ◌+◌, ◌-◌, ◌*◌, ◌%◌, ◌<◌, ◌≤◌, Bool, true, false, cond, ltb, List, [], ◌∷◌, ◌++◌, length, Option, Some, None, refl, sym, ap, subst, ◌∙◌, arith, inl, inr, length-append, sum_by}
use Rattle.std.specs.Prelude.{slice_get, All, IsSome, MatchOption}
use Rattle.std.specs.List.{repeat}
use Rattle.std.proofs.Math.Nat.{mod-eq_of_lt, add-mod_left, mod-mod, mod-add-mod, zero-mod, suc-mul, le-mul_of_pos_right, mul-pos}
use Rattle.std.proofs.lemmas.Bool.{cases_lt, lt-ltb, le-ltb}
use Rattle.std.proofs.lemmas.Option.{slice_get_past}
use Rattle.std.proofs.lemmas.List.Sums.{sum_by-cons}
use Rattle.task_script.specs.declared.phase.Event.{Event}
use Rattle.task_script.specs.declared.phase.Event.TheVariants.{Run, Sleep, Timer, Wait}
use Rattle.task_script.specs.script.ScriptView.{PhaseView, ScriptView, CursorView, IsPhase, IsScript, IsPlace, script_of, phase_len, round_len}
use Rattle.task_script.specs.script.Unrolled.{round_of, event_at}
use Rattle.task_script.specs.private.Progress.{timer_passed}
use Rattle.task_script.specs.script.Segments.{SegmentAndCursor, begun_at, at_next_event, given_by, given_at, is_timer_over, segment_at, work_in, first_place, kept_cursor, next_segment, segments, GivesAsWritten}

get_left : (xs ys : List Event) (i : ℕ) → i < length xs → slice_get (xs ++ ys) i ≡ slice_get xs i
get_left [] ys i h = absurd (omega (arith, h))
get_left (x ∷ xs) ys zero h = refl
get_left (x ∷ xs) ys (suc i) h = get_left xs ys i (omega (arith, h))

get_right : (xs ys : List Event) (i : ℕ) → length xs ≤ i → slice_get (xs ++ ys) i ≡ slice_get ys (i - length xs)
get_right [] ys i h = ap (slice_get ys) (omega arith)
get_right (x ∷ xs) ys zero h = absurd (omega (arith, h))
get_right (x ∷ xs) ys (suc i) h = get_right xs ys i (omega (arith, h)) ∙ ap (slice_get ys) (omega arith)

length_repeat : (n : ℕ) (xs : List Event) → length (repeat n xs) ≡ n * length xs
length_repeat zero xs = omega arith
length_repeat (suc n) xs =
    let both = length-append xs (repeat n xs) in
    let rest = length_repeat n xs in
    let times = suc-mul n (length xs) in
    omega arith

-- in a list that is repeated, each time is as the first
get_repeat : (n : ℕ) (xs : List Event) (i : ℕ) → i < n * length xs → slice_get (repeat n xs) i ≡ slice_get xs (i % length xs)
get_repeat zero xs i h = absurd (omega (arith, h))
get_repeat (suc n) xs i h = elim (cases_lt i (length xs)) [
  | inl first ↦ get_left xs (repeat n xs) i first ∙ ap (slice_get xs) (sym (mod-eq_of_lt first))
  | inr behind ↦
      let rest : i - length xs < n * length xs = omega (arith, suc-mul n (length xs), h) in
      let back : length xs + (i - length xs) ≡ i = omega arith in
      get_right xs (repeat n xs) i behind ∙ get_repeat n xs (i - length xs) rest ∙ ap (slice_get xs) (sym (add-mod_left (length xs) (i - length xs)) ∙ ap (λ k. k % length xs) back)
]

length_round : (phases : List PhaseView) → length (round_of phases) ≡ sum_by phase_len phases
length_round [] = refl
length_round (p ∷ ps) =
    let all = length-append (repeat p.count p.events) (round_of ps) in
    let one = length_repeat p.count p.events in
    let rest = length_round ps in
    let sum = sum_by-cons phase_len p ps in
    all ∙ ap (λ n. n + length (round_of ps)) one ∙ ap (λ n. p.count * length p.events + n) rest ∙ sym sum

-- the event at a place of a round, phase by phase
abbrev pub event_in : List PhaseView → ℕ → Option Event
event_in [] place = None
event_in (p ∷ ps) place = cond (ltb place (phase_len p)) (slice_get p.events (place % length p.events)) (event_in ps (place - phase_len p))

pub event_in_is : (phases : List PhaseView) (place : ℕ) → event_in phases place ≡ slice_get (round_of phases) place
event_in_is [] place = refl
event_in_is (p ∷ ps) place =
    let long = length_repeat p.count p.events in
    elim (cases_lt place (phase_len p)) [
      | inl within ↦ rw (lt-ltb _ _ within) (sym (get_left (repeat p.count p.events) (round_of ps) place (omega (arith, long, within)) ∙ get_repeat p.count p.events place within))
      | inr behind ↦
          let late = get_right (repeat p.count p.events) (round_of ps) place (omega (arith, long, behind)) in
          let less : place - length (repeat p.count p.events) ≡ place - phase_len p = ap (λ n. place - n) long in
          rw (le-ltb _ _ behind) (event_in_is ps (place - phase_len p) ∙ sym (late ∙ ap (slice_get (round_of ps)) less))
    ]

-- a round has an event
some_phase : (p : PhaseView) → IsPhase p → 0 < phase_len p
some_phase p h = mul-pos h.some h.some_events

pub some_round : (s : ScriptView) → IsScript s → 0 < round_len s
some_round s h = go s.phases h.some_phases h.phases where
  go : (phases : List PhaseView) → 0 < length phases → All IsPhase phases → 0 < sum_by phase_len phases
  go [] some all = omega (arith, some)
  go (p ∷ ps) some all = let sum = sum_by-cons phase_len p ps in omega (arith, sum, some_phase p (all 0 p (omega arith)))

-- without end each place has the event of that place of the first round
event_for_ever : (phases : List PhaseView) (place : ℕ) → 0 < sum_by phase_len phases → event_at (script_of None phases) place ≡ slice_get (round_of phases) (place % sum_by phase_len phases)
event_for_ever phases place some =
    let long = length_round phases in
    let wide : place + 1 ≤ (place + 1) * sum_by phase_len phases = le-mul_of_pos_right (place + 1) some in
    let within : place < (place + 1) * length (round_of phases) = rw long (omega (arith, wide)) in
    get_repeat (place + 1) (round_of phases) place within ∙ ap (λ n. slice_get (round_of phases) (place % n)) long

pub first_event : (s : ScriptView) → IsScript s → (place : ℕ) → event_at s (first_place s.rounds (round_len s) place) ≡ event_at s place
first_event s h place = go s.rounds s.phases (some_round s h) where
  go : (rounds : Option ℕ) (phases : List PhaseView) → 0 < sum_by phase_len phases → event_at (script_of rounds phases) (first_place rounds (sum_by phase_len phases) place) ≡ event_at (script_of rounds phases) place
  go None phases some =
      let round = sum_by phase_len phases in
      event_for_ever phases (place % round) some ∙ ap (slice_get (round_of phases)) (mod-mod place round) ∙ sym (event_for_ever phases place some)
  go (Some n) phases some = refl

-- in rounds that end, an event has a place within them
pub event_ends : (n : ℕ) (phases : List PhaseView) (place : ℕ) → n * sum_by phase_len phases ≤ place → event_at (script_of (Some n) phases) place ≡ None
event_ends n phases place past =
    let long = length_repeat n (round_of phases) ∙ ap (λ k. n * k) (length_round phases) in
    slice_get_past (repeat n (round_of phases)) place (omega (arith, long, past))

-- the place comes to the same event in the first round, where there is one
abbrev pub event_by : Option ℕ → List PhaseView → ℕ → Option Event
event_by None phases place = slice_get (round_of phases) (place % sum_by phase_len phases)
event_by (Some n) phases place = cond (ltb place (n * sum_by phase_len phases)) (slice_get (round_of phases) (place % sum_by phase_len phases)) None

pub event_by_is : (s : ScriptView) → IsScript s → (place : ℕ) → event_at s place ≡ event_by s.rounds s.phases place
event_by_is s h place = go s.rounds s.phases (some_round s h) where
  go : (rounds : Option ℕ) (phases : List PhaseView) → 0 < sum_by phase_len phases → event_at (script_of rounds phases) place ≡ event_by rounds phases place
  go None phases some = event_for_ever phases place some
  go (Some n) phases some = elim (cases_lt place (n * sum_by phase_len phases)) [
    | inl within ↦
        let long = length_round phases in
        let inside : place < n * length (round_of phases) = rw long within in
        rw (lt-ltb _ _ within) (get_repeat n (round_of phases) place inside ∙ ap (λ k. slice_get (round_of phases) (place % k)) long)
    | inr past ↦ rw (le-ltb _ _ past) (event_ends n phases place past)
  ]

-- places that come to the same place of the first round
abbrev pub alike : ScriptView → ℕ → ℕ → Type 0
alike s i j = first_place s.rounds (round_len s) i ≡ first_place s.rounds (round_len s) j

alike_first : (s : ScriptView) (i : ℕ) → alike s (first_place s.rounds (round_len s) i) i
alike_first s i = go s.rounds (round_len s) where
  go : (rounds : Option ℕ) (round : ℕ) → first_place rounds round (first_place rounds round i) ≡ first_place rounds round i
  go None round = mod-mod i round
  go (Some n) round = refl

alike_next : (s : ScriptView) (i j : ℕ) → alike s i j → alike s (i + 1) (j + 1)
alike_next s i j h = go s.rounds (round_len s) h where
  go : (rounds : Option ℕ) (round : ℕ) → first_place rounds round i ≡ first_place rounds round j → first_place rounds round (i + 1) ≡ first_place rounds round (j + 1)
  go None round e = sym (mod-add-mod i round 1) ∙ ap (λ k. (k + 1) % round) e ∙ mod-add-mod j round 1
  go (Some n) round e = ap (λ k. k + 1) e

alike_event : (s : ScriptView) → IsScript s → (i j : ℕ) → alike s i j → event_at s i ≡ event_at s j
alike_event s h i j e = sym (first_event s h i) ∙ ap (event_at s) e ∙ first_event s h j

abbrev at : ScriptView → ℕ → ℕ → CursorView
at s place reference = record { script = s; place = place; reference = reference }

-- the same segment, and a cursor that is kept alike
pub record SameAnswer (a b : SegmentAndCursor) : Type 0 where
  pub segment : a.segment ≡ b.segment
  pub cursor : kept_cursor a.cursor ≡ kept_cursor b.cursor

kept_alike : (s : ScriptView) (i j reference : ℕ) → alike s i j → kept_cursor (at s i reference) ≡ kept_cursor (at s j reference)
kept_alike s i j reference e = ap (λ k. at s k reference) e

given_by_alike : (s : ScriptView) (i j reference time : ℕ) (e : Option Event) → alike s i j → SameAnswer (given_by (at s i reference) time e) (given_by (at s j reference) time e)
given_by_alike s i j reference time (Some (Run n)) a = record { segment = refl; cursor = kept_alike s (i + 1) (j + 1) reference (alike_next s i j a) }
given_by_alike s i j reference time (Some (Sleep n)) a = record { segment = refl; cursor = kept_alike s (i + 1) (j + 1) reference (alike_next s i j a) }
given_by_alike s i j reference time (Some (Timer n)) a = record { segment = refl; cursor = kept_alike s (i + 1) (j + 1) (reference + n) (alike_next s i j a) }
given_by_alike s i j reference time (Some Wait) a = record { segment = refl; cursor = kept_alike s (i + 1) (j + 1) reference (alike_next s i j a) }
given_by_alike s i j reference time None a = record { segment = refl; cursor = kept_alike s i j reference a }

given_alike : (s : ScriptView) → IsScript s → (i j reference time : ℕ) → alike s i j → SameAnswer (given_at (at s i reference) time) (given_at (at s j reference) time)
given_alike s h i j reference time a =
    subst (λ e. SameAnswer (given_by (at s i reference) time e) (given_at (at s j reference) time)) (sym (alike_event s h i j a)) (given_by_alike s i j reference time (event_at s j) a)

pub given_kept : (c : CursorView) (time : ℕ) → IsScript c.script → SameAnswer (given_at (kept_cursor c) time) (given_at c time)
given_kept c time h = given_alike c.script h _ _ c.reference time (alike_first c.script c.place)

answered_alike : (s : ScriptView) → IsScript s → (i j reference time : ℕ) → alike s i j → SameAnswer (segment_at (at s i reference) time) (segment_at (at s j reference) time)
answered_alike s h i j reference time a =
    let late = given_alike s h (i + 1) (j + 1) time time (alike_next s i j a) in
    let now = given_alike s h i j reference time a in
    let both : (b : Bool) → SameAnswer (cond b (given_at (at s (i + 1) time) time) (given_at (at s i reference) time)) (cond b (given_at (at s (j + 1) time) time) (given_at (at s j reference) time)) = λ b. elim b as (λ b. SameAnswer (cond b (given_at (at s (i + 1) time) time) (given_at (at s i reference) time)) (cond b (given_at (at s (j + 1) time) time) (given_at (at s j reference) time))) [ true ↦ late | false ↦ now ] in
    subst (λ e. SameAnswer (cond (is_timer_over e reference time) (given_at (at s (i + 1) time) time) (given_at (at s i reference) time)) (segment_at (at s j reference) time)) (sym (alike_event s h i j a)) (both (is_timer_over (event_at s j) reference time))

given_script : (c : CursorView) (time : ℕ) (e : Option Event) → (given_by c time e).cursor.script ≡ c.script
given_script c time (Some (Run n)) = refl
given_script c time (Some (Sleep n)) = refl
given_script c time (Some (Timer n)) = refl
given_script c time (Some Wait) = refl
given_script c time None = refl

answered_script : (c : CursorView) (time : ℕ) → (segment_at c time).cursor.script ≡ c.script
answered_script c time =
    elim (is_timer_over (event_at c.script c.place) c.reference time) as (λ b. (cond b (given_at (at_next_event c time) time) (given_at c time)).cursor.script ≡ c.script) [
      | true ↦ given_script (at_next_event c time) time (event_at c.script (c.place + 1))
      | false ↦ given_script c time (event_at c.script c.place)
    ]

written : (times : List ℕ) (c : CursorView) → IsScript c.script → segments next_segment (kept_cursor c) times ≡ segments segment_at c times
written [] c h = refl
written (t ∷ ts) c h =
    let same = answered_alike c.script h _ _ c.reference t (alike_first c.script c.place) in
    let next = (segment_at c t).cursor in
    let rest = written ts next (subst IsScript (sym (answered_script c t)) h) in
    ap (λ x. x ∷ segments next_segment (kept_cursor (segment_at (kept_cursor c) t).cursor) ts) same.segment
    ∙ ap (λ xs. (segment_at c t).segment ∷ xs) (ap (λ k. segments next_segment k ts) same.cursor ∙ rest)

pub begun_kept : (s : ScriptView) (start : ℕ) → kept_cursor (begun_at s start) ≡ begun_at s start
begun_kept s start = ap (λ k. at s k start) (go s.rounds (round_len s)) where
  go : (rounds : Option ℕ) (round : ℕ) → first_place rounds round 0 ≡ 0
  go None round = zero-mod round
  go (Some n) round = refl

-- asked at any times, a cursor that begins gives what the script written out gives
pub begun_written : (s : ScriptView) (start : ℕ) → IsScript s → GivesAsWritten (begun_at s start)
begun_written s start h times = ap (λ c. segments next_segment c times) (sym (begun_kept s start)) ∙ written times (begun_at s start) h

-- in rounds that end, the place behind an event is within them too
pub behind_within : (s : ScriptView) (n place : ℕ) → s.rounds ≡ Some n → IsSome (event_at s place) → place + 1 ≤ n * round_len s
behind_within s n place is more = elim (cases_lt place (n * round_len s)) [
  | inl within ↦ omega (arith, within)
  | inr past ↦
      let none : event_at s place ≡ None = ap (λ r. event_at (script_of r s.phases) place) is ∙ event_ends n s.phases place past in
      let wrong = subst IsSome none more in
      absurd cc
]

-- a cursor within the first round stands as it is kept
pub kept_itself : (c : CursorView) → IsPlace c.script c.place → kept_cursor c ≡ c
kept_itself c within = ap (λ k. at c.script k c.reference) (go c.script.rounds (round_len c.script) within) where
  go : (rounds : Option ℕ) (round : ℕ) → MatchOption rounds (c.place < round) (λ n. c.place ≤ n * round) → first_place rounds round c.place ≡ c.place
  go None round within = mod-eq_of_lt within
  go (Some n) round within = refl

pub place_at_first : (s : ScriptView) → IsScript s → IsPlace s 0
place_at_first s h = go s.rounds (round_len s) (some_round s h) where
  go : (rounds : Option ℕ) (round : ℕ) → 0 < round → MatchOption rounds (0 < round) (λ n. 0 ≤ n * round)
  go None round some = some
  go (Some n) round some = omega arith

-- behind a late timer it gives what it is to give
pub answered_passed : (c : CursorView) (time : ℕ) → IsScript c.script → SameAnswer (given_at (timer_passed c time) time) (segment_at c time)
answered_passed c time h =
    elim (is_timer_over (event_at c.script c.place) c.reference time) as (λ b. SameAnswer (given_at (cond b (kept_cursor (at_next_event c time)) c) time) (cond b (given_at (at_next_event c time) time) (given_at c time))) [
      | true ↦ given_kept (at_next_event c time) time h
      | false ↦ record { segment = refl; cursor = refl }
    ]

-- where it gives work it only goes behind its event
pub record IsPassed (c : CursorView) (e : Option Event) (given : SegmentAndCursor) : Type 0 where
  pub more : IsSome e
  pub cursor : given.cursor ≡ at_next_event c c.reference

pub given_work : (c : CursorView) (time : ℕ) (e : Option Event) → IsSome (work_in (given_by c time e).segment) → IsPassed c e (given_by c time e)
given_work c time (Some (Run n)) h = record { more = refl; cursor = refl }
given_work c time (Some (Sleep n)) h = absurd cc
given_work c time (Some (Timer n)) h = absurd cc
given_work c time (Some Wait) h = absurd cc
given_work c time None h = absurd cc
