-- The greatest stretch of a span is the least number that bounds the work of a script.
use Rattle.std.proofs.Common.{◌≡◌, ℕ, zero, suc, ◌+◌, ◌*◌, ◌%◌, ◌<◌, ◌≤◌, ◌⊎◌, Bool, true, false, Option, Some, None, List, [], ◌∷◌, length, refl, sym, ap, subst, ◌∙◌, arith, inl, inr}
use Rattle.std.specs.Prelude.{max, slice_get}
use Rattle.std.specs.List.{repeat}
use Rattle.std.proofs.Math.Nat.{mul-le-mul_right}
use Rattle.std.proofs.lemmas.Option.{slice_get_past}
use Rattle.task_script.specs.declared.phase.Event.{Event}
use Rattle.task_script.specs.declared.phase.Event.TheVariants.{Run, Sleep, Timer, Wait}
use Rattle.task_script.specs.script.ScriptView.{PhaseView, ScriptView, IsScript, script_of}
use Rattle.task_script.specs.script.Unrolled.{round_of, event_at}
use Rattle.deadline_promise.specs.declared.span.Span.{Span}
use Rattle.deadline_promise.specs.KeptBudget.{work_with, work_from, BoundsWork}
use Rattle.deadline_promise.specs.Demand.{IsWorkMax}
use Rattle.deadline_promise.specs.private.Spans.{span_times, greatest, span_of_round, work_max_by}
use Rattle.deadline_promise.proofs.Stretches.{Within, After, IsSpan, span, append_none, free_times, blocked_times, times_span, round_span}
use Rattle.deadline_promise.proofs.Unrolling.{get_repeat, length_repeat, length_round, some_round, event_for_ever}

-- the events of a script from a place on, as far as a list has them
abbrev pub Follows : ScriptView → ℕ → List Event → Type 0
Follows s place es = (k : ℕ) → k < length es → event_at s (place + k) ≡ slice_get es k

first_of : (s : ScriptView) (place : ℕ) (e : Event) (es : List Event) → Follows s place (e ∷ es) → event_at s place ≡ Some e
first_of s place e es follows =
    let same : place ≡ place + 0 = omega arith in
    ap (event_at s) same ∙ follows zero (omega arith)

rest_of : (s : ScriptView) (place : ℕ) (e : Event) (es : List Event) → Follows s place (e ∷ es) → Follows s (place + 1) es
rest_of s place e es follows k within =
    let same : place + 1 + k ≡ place + suc k = omega arith in
    ap (event_at s) same ∙ follows (suc k) (omega (arith, within))

-- ---- work that is bounded is within
module _ (s : ScriptView) (most : ℕ) (bounds : BoundsWork s most) where
  bounded_from : (es : List Event) (place c : ℕ) → Follows s place es → ((count : ℕ) → c + work_from s place count ≤ most) → Within most c es
  bounded_from [] place c follows h = omega (arith, h 0)
  bounded_from (Run n ∷ es) place c follows h =
      let is = first_of s place (Run n) es follows in
      bounded_from es (place + 1) (c + n) (rest_of s place (Run n) es follows)
      (λ count. omega (arith, h (suc count), ap (λ o. work_with o (work_from s (place + 1) count)) is))
  bounded_from (Sleep n ∷ es) place c follows h =
      (omega (arith, h 0), bounded_from es (place + 1) 0 (rest_of s place (Sleep n) es follows) (λ count. omega (arith, bounds (place + 1) count)))
  bounded_from (Timer n ∷ es) place c follows h =
      (omega (arith, h 0), bounded_from es (place + 1) 0 (rest_of s place (Timer n) es follows) (λ count. omega (arith, bounds (place + 1) count)))
  bounded_from (Wait ∷ es) place c follows h =
      (omega (arith, h 0), bounded_from es (place + 1) 0 (rest_of s place Wait es follows) (λ count. omega (arith, bounds (place + 1) count)))

  bounded_within : (es : List Event) → Follows s 0 es → Within most 0 es
  bounded_within es follows = bounded_from es 0 0 follows (λ count. omega (arith, bounds 0 count))

-- ---- and what is within is bounded
within_least : (most c : ℕ) (es : List Event) → Within most c es → c ≤ most
within_least most c [] h = h
within_least most c (Run n ∷ es) h = omega (arith, within_least most (c + n) es h)
within_least most c (Sleep n ∷ es) h = h.0
within_least most c (Timer n ∷ es) h = h.0
within_least most c (Wait ∷ es) h = h.0

-- the list is long enough, or the script ends with it
abbrev Enough : ScriptView → ℕ → List Event → ℕ → Type 0
Enough s place es count = (count ≤ length es) ⊎ ((i : ℕ) → place + length es ≤ i → event_at s i ≡ None)

enough_rest : (s : ScriptView) (place : ℕ) (e : Event) (es : List Event) (count : ℕ) → Enough s place (e ∷ es) (suc count) → Enough s (place + 1) es count
enough_rest s place e es count (inl long) = inl (omega (arith, long))
enough_rest s place e es count (inr ends) = inr (λ i h. ends i (omega (arith, h)))

stretch_from : (s : ScriptView) (most : ℕ) (es : List Event) (place c count : ℕ) → Follows s place es → Enough s place es count → Within most c es → c + work_from s place count ≤ most
stretch_from s most es place c zero follows enough h = omega (arith, within_least most c es h)
stretch_from s most [] place c (suc count) follows (inl long) h = absurd (omega (arith, long))
stretch_from s most [] place c (suc count) follows (inr ends) h =
    omega (arith, h, ap (λ o. work_with o (work_from s (place + 1) count)) (ends place (omega arith)))
stretch_from s most (Run n ∷ es) place c (suc count) follows enough h =
    omega (
      arith,
      ap (λ o. work_with o (work_from s (place + 1) count)) (first_of s place (Run n) es follows),
      stretch_from s most es (place + 1) (c + n) count (rest_of s place (Run n) es follows) (enough_rest s place (Run n) es count enough) h,
    )
stretch_from s most (Sleep n ∷ es) place c (suc count) follows enough h =
    omega (arith, h.0, ap (λ o. work_with o (work_from s (place + 1) count)) (first_of s place (Sleep n) es follows))
stretch_from s most (Timer n ∷ es) place c (suc count) follows enough h =
    omega (arith, h.0, ap (λ o. work_with o (work_from s (place + 1) count)) (first_of s place (Timer n) es follows))
stretch_from s most (Wait ∷ es) place c (suc count) follows enough h =
    omega (arith, h.0, ap (λ o. work_with o (work_from s (place + 1) count)) (first_of s place Wait es follows))

within_rest : (most c : ℕ) (e : Event) (es : List Event) → Within most c (e ∷ es) → (d : ℕ) × Within most d es
within_rest most c (Run n) es h = (c + n, h)
within_rest most c (Sleep n) es h = (0, h.1)
within_rest most c (Timer n) es h = (0, h.1)
within_rest most c Wait es h = (0, h.1)

-- from any place on
within_from : (s : ScriptView) (most j : ℕ) (es : List Event) (place c count : ℕ) → Follows s place es → Enough s place es (j + count) → Within most c es → work_from s (place + j) count ≤ most
within_from s most zero es place c count follows enough h =
    let same : place + 0 ≡ place = omega arith in
    let all : 0 + count ≡ count = omega arith in
    omega (arith, ap (λ k. work_from s k count) same, stretch_from s most es place c count follows (subst (Enough s place es) all enough) h)
within_from s most (suc j) [] place c count follows (inl long) h =
    let none : count ≡ 0 = omega (arith, long) in
    absurd (omega (arith, long))
within_from s most (suc j) [] place c zero follows (inr ends) h = omega arith
within_from s most (suc j) [] place c (suc count) follows (inr ends) h =
    omega (arith, ap (λ o. work_with o (work_from s (place + suc j + 1) count)) (ends (place + suc j) (omega arith)))
within_from s most (suc j) (e ∷ es) place c count follows enough h =
    let rest = within_rest most c e es h in
    let same : place + 1 + j ≡ place + suc j = omega arith in
    let less : suc j + count ≡ suc (j + count) = omega arith in
    omega (
      arith,
      ap (λ k. work_from s k count) same,
      within_from s most j es (place + 1) rest.0 count (rest_of s place e es follows) (enough_rest s place e es (j + count) (subst (Enough s place (e ∷ es)) less enough)) rest.1,
    )

-- ---- the greatest stretch of a span
greatest_after : (free : Bool) (first inner last most : ℕ) → (greatest (record { free = free; first = first; inner = inner; last = last }) ≤ most) → After free first inner last most 0 []
greatest_after true first inner last most h = omega (arith, h)
greatest_after false first inner last most h = (grind (arith, h), grind (arith, h), grind (arith, h))

after_greatest : (free : Bool) (first inner last most : ℕ) → After free first inner last most 0 [] → greatest (record { free = free; first = first; inner = inner; last = last }) ≤ most
after_greatest true first inner last most h = omega (arith, h)
after_greatest false first inner last most h = grind (arith, h.0, h.1, h.2)

greatest_within : (s : Span) (events : List Event) (most : ℕ) → IsSpan s events → greatest s ≤ most → Within most 0 events
greatest_within s events most is h = subst (Within most 0) (append_none events) (is.back most 0 [] (greatest_after s.free s.first s.inner s.last most h))

within_greatest : (s : Span) (events : List Event) (most : ℕ) → IsSpan s events → Within most 0 events → greatest s ≤ most
within_greatest s events most is h = after_greatest s.free s.first s.inner s.last most (is.into most 0 [] (subst (Within most 0) (sym (append_none events)) h))

-- ---- rounds that end
ends_max : (n : ℕ) (phases : List PhaseView) → 0 < n → IsScript (script_of (Some n) phases) → IsWorkMax (script_of (Some n) phases) (work_max_by (Some n) (span_of_round phases))
ends_max n phases some is most =
    let s = script_of (Some n) phases in
    let events = repeat n (round_of phases) in
    let t = span_times (span_of_round phases) n in
    let span = times_span (span_of_round phases) (round_of phases) n some (round_span phases is.phases) in
    let follows : Follows s 0 events = λ k within. ap (slice_get events) (omega arith) in
    let ends : (i : ℕ) → 0 + length events ≤ i → event_at s i ≡ None = λ i past. slice_get_past events i (omega (arith, past)) in (
      (λ h place count.
          let same : 0 + place ≡ place = omega arith in
          subst (λ k. work_from s k count ≤ most) same (within_from s most place events 0 0 count follows (inr ends) (greatest_within t events most span h))),
      (λ bounds. within_greatest t events most span (bounded_within s most bounds events follows)),
    )

-- ---- rounds without end
module _ (phases : List PhaseView) (is : IsScript (script_of None phases)) where
  some_events : 0 < length (round_of phases)
  some_events = omega (arith, length_round phases, some_round (script_of None phases) is)

  pub follows_rounds : (k : ℕ) → Follows (script_of None phases) 0 (repeat k (round_of phases))
  follows_rounds k i within =
      let round = round_of phases in
      let inside : i < k * length round = omega (arith, within, length_repeat k round) in
      let same : 0 + i ≡ i = omega arith in
      ap (event_at (script_of None phases)) same
      ∙ event_for_ever phases i (some_round (script_of None phases) is)
      ∙ ap (λ n. slice_get round (i % n)) (sym (length_round phases))
      ∙ sym (get_repeat k round i inside)

  -- nothing blocks: the work has no bound
  free_max : (first inner last : ℕ) → IsSpan (span true first inner last) (round_of phases) → (most : ℕ) → BoundsWork (script_of None phases) most → ⊥
  free_max first inner last one most bounds =
      let events = round_of phases in
      let many = free_times first inner last events most one in
      let h = bounded_within (script_of None phases) most bounds (repeat (suc most) events) (follows_rounds (suc most)) in
      let all : 0 + first * suc most ≤ most = many.into most 0 [] (subst (Within most 0) (sym (append_none (repeat (suc most) events))) h) in
      let some : 1 ≤ first = omega (arith, one.some refl, some_events) in
      let least : 1 * suc most ≤ first * suc most = mul-le-mul_right (suc most) some in
      absurd (omega (arith, all, least))

  -- the stretch across the end of a round is the last that is new
  blocked_max : (first inner last : ℕ) → IsSpan (span false first inner last) (round_of phases) → IsWorkMax (script_of None phases) (Some (greatest (span false first (max inner (last + first)) last)))
  blocked_max first inner last one most =
      let s = script_of None phases in
      let events = round_of phases in
      let t = span false first (max inner (last + first)) last in (
        (λ h place count.
            let k = place + count in
            let all = repeat (suc (suc k)) events in
            let wide : 1 * suc (suc k) ≤ length events * suc (suc k) = mul-le-mul_right (suc (suc k)) some_events in
            let long : place + count ≤ length all = omega (arith, wide, length_repeat (suc (suc k)) events) in
            let same : 0 + place ≡ place = omega arith in
            subst (λ p. work_from s p count ≤ most) same
            (within_from s most place all 0 0 count (follows_rounds (suc (suc k))) (inl long) (greatest_within t all most (blocked_times first inner last events k one) h))),
        (λ bounds. within_greatest t (repeat 2 events) most (blocked_times first inner last events 0 one) (bounded_within s most bounds (repeat 2 events) (follows_rounds 2))),
      )

  endless_max : (free : Bool) (first inner last : ℕ) → IsSpan (span free first inner last) (round_of phases) → IsWorkMax (script_of None phases) (work_max_by None (span free first inner last))
  endless_max true first inner last one = free_max first inner last one
  endless_max false first inner last one = blocked_max first inner last one

-- THE GREATEST STRETCH of a script
pub work_is : (s : ScriptView) → IsScript s → IsWorkMax s (work_max_by s.rounds (span_of_round s.phases))
work_is s is = go s.rounds s.phases is where
  go : (rounds : Option ℕ) (phases : List PhaseView) → IsScript (script_of rounds phases) → IsWorkMax (script_of rounds phases) (work_max_by rounds (span_of_round phases))
  go None phases is =
      let r = span_of_round phases in
      endless_max phases is r.free r.first r.inner r.last (round_span phases is.phases)
  go (Some n) phases is = ends_max n phases is.rounds.0 is
