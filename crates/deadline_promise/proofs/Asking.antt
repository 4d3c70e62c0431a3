-- What a script that keeps a budget gives, asked at a time.
use Rattle.std.proofs.Common.{◌≡◌, ℕ, suc, ◌+◌, ◌<◌, ◌≤◌, ◌⊎◌, Bool, true, false, cond, Option, Some, None, refl, sym, ap, subst, ◌∙◌, arith, inl, inr}
use Rattle.std.specs.Prelude.{IfSome}
use Rattle.std.proofs.lemmas.Bool.{false≢true, leb-true, leb-false, lt-leb}
use Rattle.task_script.specs.declared.phase.Event.{Event}
use Rattle.task_script.specs.declared.phase.Event.TheVariants.{Run, Sleep, Timer, Wait}
use Rattle.task_script.specs.declared.script.Segment.{Segment}
use Rattle.task_script.specs.declared.script.Segment.TheVariants.{Run as RunFor, Until, Wait as WaitFor, End}
use Rattle.task_script.specs.script.ScriptView.{ScriptView, CursorView, IsScript, round_len}
use Rattle.task_script.specs.script.Unrolled.{event_at}
use Rattle.task_script.specs.script.Segments.{SegmentAndCursor, at_next_event, given_by, given_at, is_timer_over, passes_late_timer, segment_at, first_place, kept_cursor, next_segment}
use Rattle.deadline_promise.specs.KeptBudget.{work_with, work_from, IsAtLeast, is_timer_event, is_sleep_event, is_wait_event, HasNone, KeepsBudget}
use Rattle.deadline_promise.proofs.Unrolling.{work_kept, event_is}

-- the timer's reference is a time, if the script has timers
abbrev pub Refers : ScriptView → ℕ → ℕ → Type 0
Refers s reference q = HasNone is_timer_event s ⊎ (reference ≡ q)

-- what a script gives at a time, where its timer refers to q: more work; or it blocks until a time
-- that is ahead, and at least a period after q; or it ends
abbrev pub GivenIn : ℕ → CursorView → ℕ → ℕ → CursorView → Segment → Type 0
GivenIn period c q time after (RunFor n) =
    (0 < n) × ((count : ℕ) → n + work_from after.script after.place count ≡ work_from c.script c.place (suc count)) × Refers after.script after.reference q
GivenIn period c q time after (Until v) = (q + period ≤ v) × (time < v) × Refers after.script after.reference v
GivenIn period c q time after WaitFor = ⊥
GivenIn period c q time after End = Unit {0}

pub record IsGiven (period : ℕ) (c : CursorView) (q time : ℕ) (a : SegmentAndCursor) : Type 0 where
  pub script : a.cursor.script ≡ c.script
  pub is : GivenIn period c q time a.cursor a.segment

no_such : (s : ScriptView) (place : ℕ) (p : Event → Bool) (v : Event) → HasNone p s → event_at s place ≡ Some v → p v ≡ true → ⊥
no_such s place p v none e is = false≢true (sym (subst (λ o. IfSome o (λ w. p w ≡ false)) e (none place)) ∙ is)

module _ (most period : ℕ) (c : CursorView) (keeps : KeepsBudget most period c.script) (is : IsScript c.script) (some : 0 < period) where
  far : (v : Event) → event_at c.script c.place ≡ Some v → IsAtLeast period v
  far v e = subst (λ o. IfSome o (IsAtLeast period)) e (keeps.gaps c.place)

  refers_timer : (n q : ℕ) → event_at c.script c.place ≡ Some (Timer n) → Refers c.script c.reference q → c.reference ≡ q
  refers_timer n q e (inl none) = absurd (no_such c.script c.place is_timer_event (Timer n) none e refl)
  refers_timer n q e (inr same) = same

  refers_sleep : (n v : ℕ) → event_at c.script c.place ≡ Some (Sleep n) → HasNone is_timer_event c.script ⊎ HasNone is_sleep_event c.script → Refers c.script c.reference v
  refers_sleep n v e (inl none) = inl none
  refers_sleep n v e (inr none) = absurd (no_such c.script c.place is_sleep_event (Sleep n) none e refl)

  given_event : (q time : ℕ) (o : Option Event) → event_at c.script c.place ≡ o → Refers c.script c.reference q → q ≤ time → is_timer_over o c.reference time ≡ false → IsGiven period c q time (given_by c time o)
  given_event q time (Some (Run n)) e refers past early =
      record { script = refl; is = ((event_is c.script c.place (Run n) is e).0, (λ count. sym (ap (λ o. work_with o (work_from c.script (c.place + 1) count)) e)), refers) }
  given_event q time (Some (Sleep n)) e refers past early =
      record { script = refl; is = (omega (arith, past, far (Sleep n) e), omega (arith, some, far (Sleep n) e), refers_sleep n (time + n) e keeps.alike.1) }
  given_event q time (Some (Timer n)) e refers past early =
      let same = refers_timer n q e refers in
      record { script = refl; is = (omega (arith, same, far (Timer n) e), leb-false (c.reference + n) time early, inr refl) }
  given_event q time (Some Wait) e refers past early = absurd (no_such c.script c.place is_wait_event Wait keeps.alike.0 e refl)
  given_event q time None e refers past early = record { script = refl; is = tt }

  pub given_now : (q time : ℕ) → Refers c.script c.reference q → q ≤ time → passes_late_timer c time ≡ false → IsGiven period c q time (given_at c time)
  given_now q time refers past early = given_event q time (event_at c.script c.place) refl refers past early

  -- a timer that is over by now
  over_event : (q time : ℕ) (o : Option Event) → event_at c.script c.place ≡ o → Refers c.script c.reference q → is_timer_over o c.reference time ≡ true → q + period ≤ time
  over_event q time (Some (Run n)) e refers late = absurd (false≢true late)
  over_event q time (Some (Sleep n)) e refers late = absurd (false≢true late)
  over_event q time (Some (Timer n)) e refers late = omega (arith, refers_timer n q e refers, far (Timer n) e, leb-true (c.reference + n) time late)
  over_event q time (Some Wait) e refers late = absurd (false≢true late)
  over_event q time None e refers late = absurd (false≢true late)

  pub timer_over : (q time : ℕ) → Refers c.script c.reference q → passes_late_timer c time ≡ true → q + period ≤ time
  timer_over q time refers late = over_event q time (event_at c.script c.place) refl refers late

  -- a timer that refers to now is not over
  early_event : (o : Option Event) → event_at c.script c.place ≡ o → is_timer_over o c.reference c.reference ≡ false
  early_event (Some (Run n)) e = refl
  early_event (Some (Sleep n)) e = refl
  early_event (Some (Timer n)) e = lt-leb (c.reference + n) c.reference (omega (arith, some, far (Timer n) e))
  early_event (Some Wait) e = refl
  early_event None e = refl

  pub given_anew : IsGiven period c c.reference c.reference (given_at c c.reference)
  given_anew = given_now c.reference c.reference (inr refl) (omega arith) (early_event (event_at c.script c.place) refl)

-- the cursor is kept within the first round
kept_given : (period : ℕ) (c : CursorView) (q time : ℕ) (a : SegmentAndCursor) → IsScript c.script → IsGiven period c q time a → IsGiven period c q time (record { segment = a.segment; cursor = kept_cursor a.cursor })
kept_given period c q time a is g = record { script = g.script; is = by_segment a.segment g.is }
  where
    same : (count : ℕ) → work_from a.cursor.script (first_place a.cursor.script.rounds (round_len a.cursor.script) a.cursor.place) count ≡ work_from a.cursor.script a.cursor.place count
    same count = work_kept a.cursor.script a.cursor.place count (subst IsScript (sym g.script) is)

    by_segment : (b : Segment) → GivenIn period c q time a.cursor b → GivenIn period c q time (kept_cursor a.cursor) b
    by_segment (RunFor n) h = (h.0, (λ count. ap (λ w. n + w) (same count) ∙ h.1 count), h.2)
    by_segment (Until v) h = h
    by_segment WaitFor h = h
    by_segment End h = h

-- WHAT IS NEXT: from here, or after a timer that is over
pub record IsAsked (period : ℕ) (c : CursorView) (q time : ℕ) : Type 0 where
  pub soon : passes_late_timer c time ≡ false → IsGiven period c q time (next_segment c time)
  pub late : passes_late_timer c time ≡ true → (q + period ≤ time) × IsGiven period (at_next_event c time) time time (next_segment c time)

pub asked : (most period : ℕ) (c : CursorView) (q time : ℕ) → KeepsBudget most period c.script → IsScript c.script → 0 < period → Refers c.script c.reference q → q ≤ time → IsAsked period c q time
asked most period c q time keeps is some refers past = record {
  soon = λ early.
      let a = given_at c time in
      let e : segment_at c time ≡ a = ap (λ b. cond b (given_at (at_next_event c time) time) a) early in
      subst (λ b. IsGiven period c q time (record { segment = b.segment; cursor = kept_cursor b.cursor })) (sym e)
      (kept_given period c q time a is (given_now most period c keeps is some q time refers past early));
  late = λ over.
      let n = at_next_event c time in
      let a = given_at n time in
      let e : segment_at c time ≡ a = ap (λ b. cond b a (given_at c time)) over in (
        timer_over most period c keeps is some q time refers over,
        subst (λ b. IsGiven period n time time (record { segment = b.segment; cursor = kept_cursor b.cursor })) (sym e)
            (kept_given period n time time a is (given_anew most period n keeps is some)),
      );
}
