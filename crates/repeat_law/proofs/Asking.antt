-- What a script gives, later and some rounds further on.
use Rattle.std.proofs.Common.{◌≡◌, ℕ, zero, suc, ◌+◌, ◌*◌, ◌<◌, ◌≤◌, Bool, true, false, cond, ◌||◌, leb, Option, Some, None, List, [], ◌∷◌, ◌++◌, refl, ap, sym, subst, ◌∙◌, arith}
use Rattle.std.specs.Prelude.{slice_get, IsSome, IfSome}
use Rattle.std.specs.List.{list_any, repeat}
use Rattle.std.proofs.lemmas.Bool.{false≢true}
use Rattle.task_script.specs.declared.phase.Event.{Event}
use Rattle.task_script.specs.declared.phase.Event.TheVariants.{Run, Sleep, Timer, Wait}
use Rattle.task_script.specs.declared.script.Segment.{Segment}
use Rattle.task_script.specs.declared.script.Segment.TheVariants.{Run as RunFor, Until, Wait as WaitFor, End}
use Rattle.task_script.specs.script.ScriptView.{PhaseView, ScriptView, CursorView, round_len}
use Rattle.task_script.specs.script.Unrolled.{round_of, rounds_for, event_at}
use Rattle.task_script.specs.script.Segments.{SegmentAndCursor, at_next_event, given_by, given_at, is_timer_over, passes_late_timer, segment_at, first_place, kept_cursor, next_segment}
use Rattle.task_script.specs.script.Later.{reads_reference, has_timer, later_reference, place_on, later_cursor, HasRounds}
use Rattle.repeat_law.proofs.Lists.{le_later}
use Rattle.repeat_law.proofs.Serving.{swap_add}
use Rattle.repeat_law.proofs.Rounds.{event_on, next_on}

-- ---- a timer that comes is one of the script's

abbrev is_timed : Option Event → Bool
is_timed None = false
is_timed (Some e) = reads_reference e

or_right : (a b : Bool) → b ≡ true → (a || b) ≡ true
or_right true b e = refl
or_right false b e = e

or_first : (a b : Bool) → (b ≡ true → a ≡ true) → (a || b) ≡ true → a ≡ true
or_first true b f e = refl
or_first false b f e = f e

or_both : (a b c d : Bool) → (a ≡ true → c ≡ true) → (b ≡ true → d ≡ true) → (a || b) ≡ true → (c || d) ≡ true
or_both true b c d f g e = ap (λ x. x || d) (f refl)
or_both false b c d f g e = or_right c d (g e)

or_apart : (a b c : Bool) → (a || b || c) ≡ (a || (b || c))
or_apart true b c = refl
or_apart false b c = refl

any_at : (xs : List Event) (i : ℕ) → is_timed (slice_get xs i) ≡ true → list_any reads_reference xs ≡ true
any_at [] i h = h
any_at (x ∷ xs) zero h = ap (λ b. b || list_any reads_reference xs) h
any_at (x ∷ xs) (suc i) h = or_right (reads_reference x) (list_any reads_reference xs) (any_at xs i h)

any_append : (xs ys : List Event) → list_any reads_reference (xs ++ ys) ≡ (list_any reads_reference xs || list_any reads_reference ys)
any_append [] ys = refl
any_append (x ∷ xs) ys = ap (λ b. reads_reference x || b) (any_append xs ys) ∙ sym (or_apart (reads_reference x) (list_any reads_reference xs) (list_any reads_reference ys))

any_repeat : (n : ℕ) (xs : List Event) → list_any reads_reference (repeat n xs) ≡ true → list_any reads_reference xs ≡ true
any_repeat zero xs h = absurd (false≢true h)
any_repeat (suc n) xs h = or_first (list_any reads_reference xs) (list_any reads_reference (repeat n xs)) (any_repeat n xs) (sym (any_append xs (repeat n xs)) ∙ h)

any_round : (ps : List PhaseView) → list_any reads_reference (round_of ps) ≡ true → list_any (λ (p : PhaseView). list_any reads_reference p.events) ps ≡ true
any_round [] h = h
any_round (p ∷ ps) h =
    or_both (list_any reads_reference (repeat p.count p.events)) (list_any reads_reference (round_of ps)) (list_any reads_reference p.events) (list_any (λ (q : PhaseView). list_any reads_reference q.events) ps)
    (any_repeat p.count p.events) (any_round ps) (sym (any_append (repeat p.count p.events) (round_of ps)) ∙ h)

timed_there : (s : ScriptView) (place : ℕ) → is_timed (event_at s place) ≡ true → has_timer s ≡ true
timed_there s place h = any_round s.phases (any_repeat (rounds_for s.rounds place) (round_of s.phases) (any_at (repeat (rounds_for s.rounds place) (round_of s.phases)) place h))

-- ---- the script stays, and the place goes on

given_script : (c : CursorView) (time : ℕ) (e : Option Event) → c.script ≡ (given_by c time e).cursor.script
given_script c time None = refl
given_script c time (Some (Run n)) = refl
given_script c time (Some (Sleep n)) = refl
given_script c time (Some (Timer n)) = refl
given_script c time (Some Wait) = refl

pub segment_script : (c : CursorView) (time : ℕ) → c.script ≡ (segment_at c time).cursor.script
segment_script c time =
    let next = at_next_event c time in
    elim (is_timer_over (event_at c.script c.place) c.reference time) as (λ b. c.script ≡ (cond b (given_at next time) (given_at c time)).cursor.script) [
      | true ↦ given_script next time (event_at next.script next.place)
      | false ↦ given_script c time (event_at c.script c.place)
    ]

-- from a cursor to one of the same script: if the script is finite, its place is at least this
pub record IsOn (least : ℕ) (c e : CursorView) : Type 0 where
  pub script : c.script ≡ e.script
  pub on : IfSome c.script.rounds (λ n. least ≤ e.place)

given_on : (c : CursorView) (time : ℕ) (e : Option Event) → c.place ≤ (given_by c time e).cursor.place
given_on c time None = omega arith
given_on c time (Some (Run n)) = omega arith
given_on c time (Some (Sleep n)) = omega arith
given_on c time (Some (Timer n)) = omega arith
given_on c time (Some Wait) = omega arith

given_some : (c : CursorView) (time : ℕ) (e : Option Event) → IsSome e → c.place + 1 ≤ (given_by c time e).cursor.place
given_some c time None is = absurd (false≢true is)
given_some c time (Some (Run n)) is = omega arith
given_some c time (Some (Sleep n)) is = omega arith
given_some c time (Some (Timer n)) is = omega arith
given_some c time (Some Wait) is = omega arith

segment_on : (c : CursorView) (time : ℕ) → c.place ≤ (segment_at c time).cursor.place
segment_on c time =
    let next = at_next_event c time in
    let more = given_on next time (event_at next.script next.place) in
    elim (is_timer_over (event_at c.script c.place) c.reference time) as (λ b. c.place ≤ (cond b (given_at next time) (given_at c time)).cursor.place) [
      | true ↦ omega (arith, more)
      | false ↦ given_on c time (event_at c.script c.place)
    ]

segment_some : (c : CursorView) (time : ℕ) → IsSome (event_at c.script c.place) → c.place + 1 ≤ (segment_at c time).cursor.place
segment_some c time is =
    let next = at_next_event c time in
    elim (is_timer_over (event_at c.script c.place) c.reference time) as (λ b. c.place + 1 ≤ (cond b (given_at next time) (given_at c time)).cursor.place) [
      | true ↦ given_on next time (event_at next.script next.place)
      | false ↦ given_some c time (event_at c.script c.place) is
    ]

segment_late : (c : CursorView) (time : ℕ) → passes_late_timer c time ≡ true → IsSome (event_at c.script (c.place + 1)) → c.place + 1 + 1 ≤ (segment_at c time).cursor.place
segment_late c time late is =
    let next = at_next_event c time in
    subst (λ b. c.place + 1 + 1 ≤ (cond b (given_at next time) (given_at c time)).cursor.place) (sym late) (given_some next time (event_at next.script next.place) is)

kept_on : (c : CursorView) (time least : ℕ) → least ≤ (segment_at c time).cursor.place → IsOn least c (next_segment c time).cursor
kept_on c time least h =
    let q = (segment_at c time).cursor in
    let script = segment_script c time in
    record { script = script; on = subst (λ s. IfSome s.rounds (λ n. least ≤ (kept_cursor q).place)) (sym script) (go q.script.rounds) }
  where
    go : (rounds : Option ℕ) → IfSome rounds (λ n. least ≤ first_place rounds (round_len (segment_at c time).cursor.script) (segment_at c time).cursor.place)
    go None = tt
    go (Some n) = h

pub next_is_on : (c : CursorView) (time : ℕ) → IsOn c.place c (next_segment c time).cursor
next_is_on c time = kept_on c time c.place (segment_on c time)

-- so what is left of the rounds after is left before
pub rounds_left : (r least : ℕ) (c e : CursorView) → IsOn least c e → HasRounds r e → IfSome c.script.rounds (λ n. least + r * round_len c.script ≤ n * round_len c.script)
rounds_left r least c e is left =
    go c.script.rounds is.on (subst (λ s. IfSome s.rounds (λ n. e.place + r * round_len s ≤ n * round_len s)) (sym is.script) left)
  where
    go : (rounds : Option ℕ) → IfSome rounds (λ n. least ≤ e.place) → IfSome rounds (λ n. e.place + r * round_len c.script ≤ n * round_len c.script) → IfSome rounds (λ n. least + r * round_len c.script ≤ n * round_len c.script)
    go None a b = tt
    go (Some n) a b = omega (arith, a, b)

-- ---- the events that come are the same

module _ (r : ℕ) (c : CursorView) (time : ℕ) (left : 0 < r → HasRounds r (next_segment c time).cursor) where
  here : event_at c.script (place_on c.script.rounds (r * round_len c.script) c.place) ≡ event_at c.script c.place
  here = event_on c.script r c.place (λ is some. rounds_left r (c.place + 1) c (next_segment c time).cursor (kept_on c time (c.place + 1) (segment_some c time is)) (left some))

  following : passes_late_timer c time ≡ true → event_at c.script (place_on c.script.rounds (r * round_len c.script) (c.place + 1)) ≡ event_at c.script (c.place + 1)
  following late = event_on c.script r (c.place + 1) (λ is some. rounds_left r (c.place + 1 + 1) c (next_segment c time).cursor (kept_on c time (c.place + 1 + 1) (segment_late c time late is)) (left some))

-- ---- what an event gives

abbrev pub cursor_by : Bool → ℕ → ℕ → CursorView → CursorView
cursor_by timed k places c = record c { place = place_on c.script.rounds places c.place; reference = later_reference timed k c.reference }

abbrev pub later_segment : ℕ → Segment → Segment
later_segment k (RunFor n) = RunFor n
later_segment k (Until u) = Until (u + k)
later_segment k WaitFor = WaitFor
later_segment k End = End

abbrev ask_by : Bool → ℕ → ℕ → SegmentAndCursor → SegmentAndCursor
ask_by timed k places a = record { segment = later_segment k a.segment; cursor = cursor_by timed k places a.cursor }

abbrev pub later_ask : ℕ → ℕ → SegmentAndCursor → SegmentAndCursor
later_ask k r a = record { segment = later_segment k a.segment; cursor = later_cursor k r a.cursor }

timer_given : (k places : ℕ) (b : Bool) (c : CursorView) (time n : ℕ) → b ≡ true → given_by (cursor_by b k places c) (time + k) (Some (Timer n)) ≡ ask_by b k places (given_by c time (Some (Timer n)))
timer_given k places true c time n h =
    let e = swap_add c.reference n k in
    let p = next_on c.script.rounds places c.place in
    λ i. record { segment = Until (e i); cursor = record { script = c.script; place = p i; reference = e i } }
timer_given k places false c time n h = absurd (false≢true h)

given_later : (k places : ℕ) (b : Bool) (c : CursorView) (time : ℕ) (e : Option Event) → (is_timed e ≡ true → b ≡ true) → given_by (cursor_by b k places c) (time + k) e ≡ ask_by b k places (given_by c time e)
given_later k places b c time None h = refl
given_later k places b c time (Some (Run n)) h =
    let p = next_on c.script.rounds places c.place in
    λ i. record { segment = RunFor n; cursor = record { script = c.script; place = p i; reference = later_reference b k c.reference } }
given_later k places b c time (Some (Sleep n)) h =
    let e = swap_add time n k in
    let p = next_on c.script.rounds places c.place in
    λ i. record { segment = Until (e i); cursor = record { script = c.script; place = p i; reference = later_reference b k c.reference } }
given_later k places b c time (Some (Timer n)) h = timer_given k places b c time n (h refl)
given_later k places b c time (Some Wait) h =
    let p = next_on c.script.rounds places c.place in
    λ i. record { segment = WaitFor; cursor = record { script = c.script; place = p i; reference = later_reference b k c.reference } }

timer_later : (k : ℕ) (e : Option Event) (reference time : ℕ) → is_timer_over e (reference + k) (time + k) ≡ is_timer_over e reference time
timer_later k None reference time = refl
timer_later k (Some (Run n)) reference time = refl
timer_later k (Some (Sleep n)) reference time = refl
timer_later k (Some (Timer n)) reference time = let e = swap_add reference n k in (λ i. leb (e i) (time + k)) ∙ le_later (reference + n) time k
timer_later k (Some Wait) reference time = refl

never_over : (e : Option Event) (reference time : ℕ) → (is_timed e ≡ true → false ≡ true) → is_timer_over e reference time ≡ false
never_over None reference time h = refl
never_over (Some (Run n)) reference time h = refl
never_over (Some (Sleep n)) reference time h = refl
never_over (Some (Timer n)) reference time h = absurd (false≢true (h refl))
never_over (Some Wait) reference time h = refl

-- ---- a segment

module _ (k places : ℕ) (c : CursorView) (time : ℕ) where
  abbrev same_at : ℕ → Type 0
  same_at place = event_at c.script (place_on c.script.rounds places place) ≡ event_at c.script place

  abbrev timed_at : Bool → Type 0
  timed_at b = (place : ℕ) → is_timed (event_at c.script place) ≡ true → b ≡ true

  -- after a late timer
  after_timer : timed_at true → same_at (c.place + 1) → given_at (at_next_event (cursor_by true k places c) (time + k)) (time + k) ≡ ask_by true k places (given_at (at_next_event c time) time)
  after_timer timed same =
      let next = at_next_event c time in
      let p = next_on c.script.rounds places c.place in
      (λ i. given_at (record { script = c.script; place = p i; reference = time + k }) (time + k))
      ∙ (λ i. given_by (cursor_by true k places next) (time + k) (same i))
      ∙ given_later k places true next time (event_at c.script (c.place + 1)) (timed (c.place + 1))

  segment_later : (b : Bool) → timed_at b → same_at c.place → (passes_late_timer c time ≡ true → same_at (c.place + 1)) → segment_at (cursor_by b k places c) (time + k) ≡ ask_by b k places (segment_at c time)
  segment_later true timed same next =
      let e = event_at c.script c.place in
      let moved = cursor_by true k places c in
      let over = timer_later k e c.reference time in
      let soon = given_later k places true c time e (timed c.place) in
      let after = given_at (at_next_event moved (time + k)) (time + k) in
      (λ i. cond (is_timer_over (same i) (c.reference + k) (time + k)) after (given_by moved (time + k) (same i)))
      ∙ (λ i. cond (over i) after (soon i))
      ∙ (elim (is_timer_over e c.reference time) as (λ o. is_timer_over e c.reference time ≡ o → cond o after (ask_by true k places (given_at c time)) ≡ ask_by true k places (cond o (given_at (at_next_event c time) time) (given_at c time))) [
        | true ↦ λ late. after_timer timed (next late)
        | false ↦ λ late. refl
      ] refl)
  segment_later false timed same next =
      let e = event_at c.script c.place in
      let moved = cursor_by false k places c in
      let later_over = never_over e c.reference (time + k) (timed c.place) in
      let over = never_over e c.reference time (timed c.place) in
      let soon = given_later k places false c time e (timed c.place) in
      let after = given_at (at_next_event moved (time + k)) (time + k) in
      (λ i. cond (is_timer_over (same i) c.reference (time + k)) after (given_by moved (time + k) (same i)))
      ∙ (λ i. cond (later_over i) after (soon i))
      ∙ sym (λ i. ask_by false k places (cond (over i) (given_at (at_next_event c time) time) (given_at c time)))

kept_later : (k places : ℕ) (b : Bool) (c : CursorView) → kept_cursor (cursor_by b k places c) ≡ cursor_by b k places (kept_cursor c)
kept_later k places b c = let p = go c.script.rounds in λ i. record { script = c.script; place = p i; reference = later_reference b k c.reference }
  where
    go : (rounds : Option ℕ) → first_place rounds (round_len c.script) (place_on rounds places c.place) ≡ place_on rounds places (first_place rounds (round_len c.script) c.place)
    go None = refl
    go (Some n) = refl

-- a script that is asked gives the same, later, if the place after is within its rounds
pub next_later : (k r : ℕ) (c : CursorView) (time : ℕ) → (0 < r → HasRounds r (next_segment c time).cursor) → next_segment (later_cursor k r c) (time + k) ≡ later_ask k r (next_segment c time)
next_later k r c time left =
    let b = has_timer c.script in
    let places = r * round_len c.script in
    let e = segment_later k places c time b (timed_there c.script) (here r c time left) (following r c time left) in
    let s = segment_script c time in
    let a = segment_at c time in
    let kept = kept_later k places b a.cursor in
    (λ i. record { segment = (e i).segment; cursor = kept_cursor (e i).cursor })
    ∙ (λ i. record { segment = later_segment k a.segment; cursor = kept i })
    ∙ (λ i. ask_by (has_timer (s i)) k (r * round_len (s i)) (next_segment c time))

-- a timer is late as it was
late_by : (k : ℕ) (b : Bool) (c : CursorView) (time : ℕ) → (is_timed (event_at c.script c.place) ≡ true → b ≡ true) → is_timer_over (event_at c.script c.place) (later_reference b k c.reference) (time + k) ≡ passes_late_timer c time
late_by k true c time h = timer_later k (event_at c.script c.place) c.reference time
late_by k false c time h = never_over (event_at c.script c.place) c.reference (time + k) h ∙ sym (never_over (event_at c.script c.place) c.reference time h)

pub late_later : (k r : ℕ) (c : CursorView) (time : ℕ) → (0 < r → HasRounds r (next_segment c time).cursor) → passes_late_timer (later_cursor k r c) (time + k) ≡ passes_late_timer c time
late_later k r c time left =
    let same = here r c time left in
    (λ i. is_timer_over (same i) (later_reference (has_timer c.script) k c.reference) (time + k))
    ∙ late_by k (has_timer c.script) c time (timed_there c.script c.place)
