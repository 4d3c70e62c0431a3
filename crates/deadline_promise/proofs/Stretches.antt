-- The four numbers of a span bound the stretches of its events.
use Rattle.std.proofs.Common.{◌≡◌, ℕ, zero, suc, ◌+◌, ◌*◌, ◌<◌, ◌≤◌, Bool, true, false, cond, eqb, List, [], ◌∷◌, ◌++◌, length, refl, sym, ap, subst, ◌∙◌, arith, length-append}
use Rattle.std.specs.Prelude.{All, fold, max}
use Rattle.std.specs.List.{repeat}
use Rattle.std.proofs.lemmas.Bool.{false≢true, ne_eqb}
use Rattle.std.proofs.lemmas.List.Elements.{All-head, All-tail}
use Rattle.task_script.specs.declared.phase.Event.{Event}
use Rattle.task_script.specs.declared.phase.Event.TheVariants.{Run, Sleep, Timer, Wait}
use Rattle.task_script.specs.script.ScriptView.{PhaseView, IsEvent, IsPhase}
use Rattle.task_script.specs.script.Unrolled.{round_of}
use Rattle.deadline_promise.specs.declared.span.Span.{Span}
use Rattle.deadline_promise.specs.private.Spans.{empty_span, span_with_event, joined_spans, span_times, span_of_events, span_of_phase, with_phase, span_of_round}

-- no stretch of these events is above `most`, where so much work is before them
abbrev pub Within : ℕ → ℕ → List Event → Type 0
Within most c [] = c ≤ most
Within most c (Run n ∷ es) = Within most (c + n) es
Within most c (Sleep n ∷ es) = (c ≤ most) × Within most 0 es
Within most c (Timer n ∷ es) = (c ≤ most) × Within most 0 es
Within most c (Wait ∷ es) = (c ≤ most) × Within most 0 es

-- the same by a span, with further events after it
abbrev pub After : Bool → ℕ → ℕ → ℕ → ℕ → ℕ → List Event → Type 0
After true first inner last most c es = Within most (c + first) es
After false first inner last most c es = (c + first ≤ most) × (inner ≤ most) × Within most last es

abbrev pub AfterSpan : Span → ℕ → ℕ → List Event → Type 0
AfterSpan s most c es = After s.free s.first s.inner s.last most c es

pub record IsSpan (s : Span) (events : List Event) : Type 0 where
  pub into : (most c : ℕ) (es : List Event) → Within most c (events ++ es) → AfterSpan s most c es
  pub back : (most c : ℕ) (es : List Event) → AfterSpan s most c es → Within most c (events ++ es)
  -- each event of a span that is free is work
  pub some : s.free ≡ true → length events ≤ s.first

append_all : {X : Type 0} (xs ys zs : List X) → (xs ++ ys) ++ zs ≡ xs ++ (ys ++ zs)
append_all [] ys zs = refl
append_all (x ∷ xs) ys zs = ap (λ l. x ∷ l) (append_all xs ys zs)

pub empty_is : IsSpan empty_span []
empty_is = record { into = λ most c es h. subst (λ k. Within most k es) (omega arith) h; back = λ most c es h. subst (λ k. Within most k es) (omega arith) h; some = λ e. omega arith }

-- ---- one after the other
abbrev join : Bool → Bool → ℕ → ℕ → ℕ → ℕ → ℕ → ℕ → ℕ → ℕ → List Event → Type 0
join x y af ai al bf bi bl most c es =
    cond x (After y (af + bf) bi bl most c es)
    (cond y (After false af ai (al + bf) most c es) (After false af (max ai (max (al + bf) bi)) bl most c es))

-- as the code joins them
joined_is : (a b : Span) (most c : ℕ) (es : List Event) → AfterSpan (joined_spans a b) most c es ≡ join a.free b.free a.first a.inner a.last b.first b.inner b.last most c es
joined_is a b most c es = by_free a.free b.free refl refl
  where
    by_free : (x y : Bool) → a.free ≡ x → b.free ≡ y → AfterSpan (joined_spans a b) most c es ≡ join x y a.first a.inner a.last b.first b.inner b.last most c es
    by_free true y p q = ap (λ z. AfterSpan (cond z (record b { first = a.first + b.first }) (cond b.free (record a { last = a.last + b.first }) (record { free = false; first = a.first; inner = max a.inner (max (a.last + b.first) b.inner); last = b.last }))) most c es) p ∙ ap (λ z. After z (a.first + b.first) b.inner b.last most c es) q
    by_free false true p q =
        ap (λ z. AfterSpan (cond z (record b { first = a.first + b.first }) (cond b.free (record a { last = a.last + b.first }) (record { free = false; first = a.first; inner = max a.inner (max (a.last + b.first) b.inner); last = b.last }))) most c es) p
        ∙ ap (λ z. AfterSpan (cond z (record a { last = a.last + b.first }) (record { free = false; first = a.first; inner = max a.inner (max (a.last + b.first) b.inner); last = b.last })) most c es) q
        ∙ ap (λ z. After z a.first a.inner (a.last + b.first) most c es) p
    by_free false false p q =
        ap (λ z. AfterSpan (cond z (record b { first = a.first + b.first }) (cond b.free (record a { last = a.last + b.first }) (record { free = false; first = a.first; inner = max a.inner (max (a.last + b.first) b.inner); last = b.last }))) most c es) p
        ∙ ap (λ z. AfterSpan (cond z (record a { last = a.last + b.first }) (record { free = false; first = a.first; inner = max a.inner (max (a.last + b.first) b.inner); last = b.last })) most c es) q

sum_three : (a b c : ℕ) → a + b + c ≡ a + (b + c)
sum_three a b c = omega arith

join_into : (x y : Bool) (af ai al bf bi bl most c : ℕ) (next es : List Event) → ((k : ℕ) → Within most k next → After y bf bi bl most k es) → After x af ai al most c next → join x y af ai al bf bi bl most c es
join_into true true af ai al bf bi bl most c next es f h = subst (λ k. Within most k es) (sum_three c af bf) (f (c + af) h)
join_into true false af ai al bf bi bl most c next es f h = let g = f (c + af) h in (omega (arith, g.0), g.1, g.2)
join_into false true af ai al bf bi bl most c next es f h = (h.0, h.1, f al h.2)
join_into false false af ai al bf bi bl most c next es f h = let g = f al h.2 in (h.0, grind (arith, h.1, g.0, g.1), g.2)

join_back : (x y : Bool) (af ai al bf bi bl most c : ℕ) (next es : List Event) → ((k : ℕ) → After y bf bi bl most k es → Within most k next) → join x y af ai al bf bi bl most c es → After x af ai al most c next
join_back true true af ai al bf bi bl most c next es f h = f (c + af) (subst (λ k. Within most k es) (sym (sum_three c af bf)) h)
join_back true false af ai al bf bi bl most c next es f h = f (c + af) (omega (arith, h.0), h.1, h.2)
join_back false true af ai al bf bi bl most c next es f h = (h.0, h.1, f al h.2)
join_back false false af ai al bf bi bl most c next es f h =
    (h.0, grind (arith, h.1), f al (grind (arith, h.1), grind (arith, h.1), h.2))

joined_some : (a b : Span) (xs ys : List Event) → IsSpan a xs → IsSpan b ys → (joined_spans a b).free ≡ true → length (xs ++ ys) ≤ (joined_spans a b).first
joined_some a b xs ys one two free = by_free a.free b.free refl refl free
  where
    by_free : (x y : Bool) → a.free ≡ x → b.free ≡ y → (cond x (record b { first = a.first + b.first }) (cond y (record a { last = a.last + b.first }) (record { free = false; first = a.first; inner = max a.inner (max (a.last + b.first) b.inner); last = b.last }))).free ≡ true
        → length (xs ++ ys) ≤ (cond x (record b { first = a.first + b.first }) (cond y (record a { last = a.last + b.first }) (record { free = false; first = a.first; inner = max a.inner (max (a.last + b.first) b.inner); last = b.last }))).first
    by_free true true p q e = omega (arith, length-append xs ys, one.some p, two.some q)
    by_free true false p q e = absurd (false≢true (sym q ∙ e))
    by_free false true p q e = absurd (false≢true (sym p ∙ e))
    by_free false false p q e = absurd (false≢true e)

pub joined_span : (a b : Span) (xs ys : List Event) → IsSpan a xs → IsSpan b ys → IsSpan (joined_spans a b) (xs ++ ys)
joined_span a b xs ys one two = record {
  into = λ most c es h.
      subst (λ T. T) (sym (joined_is a b most c es))
      (join_into a.free b.free a.first a.inner a.last b.first b.inner b.last most c (ys ++ es) es (λ k. two.into most k es)
      (one.into most c (ys ++ es) (subst (Within most c) (append_all xs ys es) h)));
  back = λ most c es h.
      subst (Within most c) (sym (append_all xs ys es))
      (one.back most c (ys ++ es)
      (join_back a.free b.free a.first a.inner a.last b.first b.inner b.last most c (ys ++ es) es (λ k. two.back most k es) (subst (λ T. T) (joined_is a b most c es) h)));
  some = joined_some a b xs ys one two;
}

-- ---- an event more
pub append_none : {X : Type 0} (xs : List X) → xs ++ [] ≡ xs
append_none [] = refl
append_none (x ∷ xs) = ap (λ ys. x ∷ ys) (append_none xs)

abbrev pub span : Bool → ℕ → ℕ → ℕ → Span
span free first inner last = record { free = free; first = first; inner = inner; last = last }

-- what ends a stretch
abbrev Ends : Event → Type 1
Ends e = (most c : ℕ) (es : List Event) → Within most c (e ∷ es) ≡ ((c ≤ most) × Within most 0 es)

module _ (first inner last : ℕ) (events : List Event) where
  work_free : (n : ℕ) → 0 < n → IsSpan (span true first inner last) events → IsSpan (span true (first + n) inner last) (events ++ Run n ∷ [])
  work_free n some is = record {
    into = λ most c es h. subst (λ k. Within most k es) (sum_three c first n) (is.into most c (Run n ∷ es) (subst (Within most c) (append_all events (Run n ∷ []) es) h));
    back = λ most c es h. subst (Within most c) (sym (append_all events (Run n ∷ []) es)) (is.back most c (Run n ∷ es) (subst (λ k. Within most k es) (sym (sum_three c first n)) h));
    some = λ e. omega (arith, length-append events (Run n ∷ []), is.some refl, some);
  }

  work_blocked : (n : ℕ) → IsSpan (span false first inner last) events → IsSpan (span false first inner (last + n)) (events ++ Run n ∷ [])
  work_blocked n is = record {
    into = λ most c es h. is.into most c (Run n ∷ es) (subst (Within most c) (append_all events (Run n ∷ []) es) h);
    back = λ most c es h. subst (Within most c) (sym (append_all events (Run n ∷ []) es)) (is.back most c (Run n ∷ es) h);
    some = λ e. absurd (false≢true e);
  }

  end_free : (e : Event) → Ends e → IsSpan (span true first inner last) events → IsSpan (span false first 0 0) (events ++ e ∷ [])
  end_free e is_end is = record {
    into = λ most c es h.
        let g = subst (λ T. T) (is_end most (c + first) es) (is.into most c (e ∷ es) (subst (Within most c) (append_all events (e ∷ []) es) h)) in
        (g.0, omega arith, g.1);
    back = λ most c es h. subst (Within most c) (sym (append_all events (e ∷ []) es)) (is.back most c (e ∷ es) (subst (λ T. T) (sym (is_end most (c + first) es)) (h.0, h.2)));
    some = λ y. absurd (false≢true y);
  }

  end_blocked : (e : Event) → Ends e → IsSpan (span false first inner last) events → IsSpan (span false first (max inner last) 0) (events ++ e ∷ [])
  end_blocked e is_end is = record {
    into = λ most c es h.
        let f = is.into most c (e ∷ es) (subst (Within most c) (append_all events (e ∷ []) es) h) in
        let g = subst (λ T. T) (is_end most last es) f.2 in
        (f.0, grind (arith, f.1, g.0), g.1);
    back = λ most c es h.
        subst (Within most c) (sym (append_all events (e ∷ []) es))
        (is.back most c (e ∷ es) (h.0, grind (arith, h.1), subst (λ T. T) (sym (is_end most last es)) (grind (arith, h.1), h.2)));
    some = λ y. absurd (false≢true y);
  }

  free_event : (e : Event) → IsEvent e → IsSpan (span true first inner last) events → IsSpan (span_with_event (span true first inner last) e) (events ++ e ∷ [])
  free_event (Run n) v is = work_free n v.0 is
  free_event (Sleep n) v is = end_free (Sleep n) (λ most c es. refl) is
  free_event (Timer n) v is = end_free (Timer n) (λ most c es. refl) is
  free_event Wait v is = end_free Wait (λ most c es. refl) is

  blocked_event : (e : Event) → IsSpan (span false first inner last) events → IsSpan (span_with_event (span false first inner last) e) (events ++ e ∷ [])
  blocked_event (Run n) is = work_blocked n is
  blocked_event (Sleep n) is = end_blocked (Sleep n) (λ most c es. refl) is
  blocked_event (Timer n) is = end_blocked (Timer n) (λ most c es. refl) is
  blocked_event Wait is = end_blocked Wait (λ most c es. refl) is

  by_free : (free : Bool) (e : Event) → IsEvent e → IsSpan (span free first inner last) events → IsSpan (span_with_event (span free first inner last) e) (events ++ e ∷ [])
  by_free true e v is = free_event e v is
  by_free false e v is = blocked_event e is

events_from : (es before : List Event) (s : Span) → All IsEvent es → IsSpan s before → IsSpan (fold span_with_event s es) (before ++ es)
events_from [] before s all is = subst (IsSpan s) (sym (append_none before)) is
events_from (e ∷ es) before s all is =
    let one = by_free s.first s.inner s.last before s.free e (All-head IsEvent e es all) is in
    subst (IsSpan (fold span_with_event (span_with_event s e) es)) (append_all before (e ∷ []) es) (events_from es (before ++ e ∷ []) (span_with_event s e) (All-tail IsEvent e es all) one)

-- ---- so many times over
max_again : (i m : ℕ) → max i (max m i) ≡ max i m
max_again i m = grind arith

max_more : (i m : ℕ) → max i (max m (max i m)) ≡ max i m
max_more i m = grind arith

pub blocked_times : (first inner last : ℕ) (events : List Event) (k : ℕ) → IsSpan (span false first inner last) events → IsSpan (span false first (max inner (last + first)) last) (repeat (suc (suc k)) events)
blocked_times first inner last events zero is =
    let s = span false first inner last in
    let once : IsSpan s (events ++ []) = subst (IsSpan s) (sym (append_none events)) is in
    subst (λ i. IsSpan (span false first i last) (events ++ (events ++ []))) (max_again inner (last + first)) (joined_span s s events (events ++ []) is once)
blocked_times first inner last events (suc k) is =
    let s = span false first inner last in
    let t = span false first (max inner (last + first)) last in
    subst (λ i. IsSpan (span false first i last) (events ++ repeat (suc (suc k)) events)) (max_more inner (last + first))
    (joined_span s t events (repeat (suc (suc k)) events) is (blocked_times first inner last events k is))

pub free_times : (first inner last : ℕ) (events : List Event) (k : ℕ) → IsSpan (span true first inner last) events → IsSpan (span true (first * suc k) inner last) (repeat (suc k) events)
free_times first inner last events zero is =
    let one : first ≡ first * 1 = omega arith in
    subst (λ n. IsSpan (span true n inner last) (events ++ [])) one (subst (IsSpan (span true first inner last)) (sym (append_none events)) is)
free_times first inner last events (suc k) is =
    let more : first + first * suc k ≡ first * suc (suc k) = omega arith in
    subst (λ n. IsSpan (span true n inner last) (events ++ repeat (suc k) events)) more
    (joined_span (span true first inner last) (span true (first * suc k) inner last) events (repeat (suc k) events) is (free_times first inner last events k is))

pub times_span : (s : Span) (events : List Event) (n : ℕ) → 0 < n → IsSpan s events → IsSpan (span_times s n) (repeat n events)
times_span s events zero some is = absurd (omega (arith, some))
times_span s events (suc k) some is = by_count s.free k is
  where
    by_count : (free : Bool) (k : ℕ) → IsSpan (span free s.first s.inner s.last) events → IsSpan (span_times (span free s.first s.inner s.last) (suc k)) (repeat (suc k) events)
    by_count true k is = free_times s.first s.inner s.last events k is
    by_count false zero is = subst (IsSpan (span false s.first s.inner s.last)) (sym (append_none events)) is
    by_count false (suc k) is =
        let many : eqb (suc (suc k)) 1 ≡ false = ne_eqb (suc (suc k)) 1 (λ e. absurd (omega (arith, e))) in
        subst (λ b. IsSpan (cond b (span false s.first s.inner s.last) (span false s.first (max s.inner (s.last + s.first)) s.last)) (repeat (suc (suc k)) events)) (sym many)
        (blocked_times s.first s.inner s.last events k is)

-- ---- a phase, and a round
phase_span : (p : PhaseView) → IsPhase p → IsSpan (span_of_phase p) (repeat p.count p.events)
phase_span p is = times_span (span_of_events p.events) p.events p.count is.some (events_from p.events [] empty_span is.events empty_is)

phases_from : (ps : List PhaseView) (before : List Event) (s : Span) → All IsPhase ps → IsSpan s before → IsSpan (fold with_phase s ps) (before ++ round_of ps)
phases_from [] before s all is = subst (IsSpan s) (sym (append_none before)) is
phases_from (p ∷ ps) before s all is =
    let events = repeat p.count p.events in
    let one = joined_span s (span_of_phase p) before events is (phase_span p (All-head IsPhase p ps all)) in
    subst (IsSpan (fold with_phase (with_phase s p) ps)) (append_all before events (round_of ps)) (phases_from ps (before ++ events) (with_phase s p) (All-tail IsPhase p ps all) one)

pub round_span : (ps : List PhaseView) → All IsPhase ps → IsSpan (span_of_round ps) (round_of ps)
round_span ps all = phases_from ps [] empty_span all empty_is
