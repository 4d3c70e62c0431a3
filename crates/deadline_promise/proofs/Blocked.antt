-- What a script's events block by, read off each phase once.
use Rattle.std.proofs.Common.{◌≡◌, ℕ, zero, suc, ◌+◌, ◌<◌, ◌≤◌, ◌⊎◌, ◌↔◌, Bool, true, false, not, ◌&&◌, Option, Some, None, List, [], ◌∷◌, ◌++◌, get_or, refl, sym, ap, subst, ◌∙◌, arith, inl, inr}
use Rattle.std.specs.Prelude.{All, fold, slice_get, IfSome, IsTrue}
use Rattle.std.specs.List.{flat_map, repeat}
use Rattle.std.proofs.lemmas.Bool.{false≢true}
use Rattle.std.proofs.lemmas.Option.{slice_get-get_or}
use Rattle.std.proofs.lemmas.List.Elements.{All-nil, All-cons, All-head, All-tail, All-append, All-push}
use Rattle.task_script.specs.declared.phase.Event.{Event}
use Rattle.task_script.specs.declared.phase.Event.TheVariants.{Run, Sleep, Timer, Wait}
use Rattle.task_script.specs.script.ScriptView.{PhaseView, ScriptView, IsPhase, IsScript, script_of}
use Rattle.task_script.specs.script.Unrolled.{round_of, rounds_for, event_at}
use Rattle.deadline_promise.specs.declared.blocks.Blocks.{Blocks}
use Rattle.deadline_promise.specs.KeptBudget.{IsAtLeast, OfAllEvents, is_timer_event, is_sleep_event, is_wait_event, HasNone, BlocksAlike}
use Rattle.deadline_promise.specs.declared.span.Span.{Span}
use Rattle.deadline_promise.specs.Demand.{IsWorkMax, IsGapMin, IsDemand}
use Rattle.deadline_promise.specs.private.Spans.{span_of_round, work_max_by}
use Rattle.deadline_promise.specs.private.Blocking.{no_blocks, lesser_gap, with_block, with_blocks, blocks_of_phases, are_alike}
use Rattle.deadline_promise.proofs.Stretches.{append_none}
use Rattle.deadline_promise.proofs.Unrolling.{repeat_all}
use Rattle.deadline_promise.proofs.Bounding.{Follows, follows_rounds, work_is}

-- ---- parts of lists
all_left : (P : Event → Type 0) (xs ys : List Event) → All P (xs ++ ys) → All P xs
all_left P [] ys all = All-nil P
all_left P (x ∷ xs) ys all = All-cons P x xs (All-head P x (xs ++ ys) all) (all_left P xs ys (All-tail P x (xs ++ ys) all))

all_right : (P : Event → Type 0) (xs ys : List Event) → All P (xs ++ ys) → All P ys
all_right P [] ys all = all
all_right P (x ∷ xs) ys all = all_right P xs ys (All-tail P x (xs ++ ys) all)

last_of : (P : Event → Type 0) (xs : List Event) (e : Event) → All P (xs ++ e ∷ []) → P e
last_of P xs e all = All-head P e [] (all_right P xs (e ∷ []) all)

-- ---- the events of all phases, each once
abbrev events_of : List PhaseView → List Event
events_of phases = flat_map (λ (p : PhaseView). p.events) phases

round_of_all : (P : Event → Type 0) (phases : List PhaseView) → All P (events_of phases) → All P (round_of phases)
round_of_all P [] all = All-nil P
round_of_all P (p ∷ ps) all =
    All-append P (repeat p.count p.events) (round_of ps) (repeat_all P p.count p.events (all_left P p.events (events_of ps) all)) (round_of_all P ps (all_right P p.events (events_of ps) all))

once_of : (P : Event → Type 0) (n : ℕ) (xs : List Event) → 0 < n → All P (repeat n xs) → All P xs
once_of P zero xs some all = absurd (omega (arith, some))
once_of P (suc n) xs some all = all_left P xs (repeat n xs) all

all_of_round : (P : Event → Type 0) (phases : List PhaseView) → All IsPhase phases → All P (round_of phases) → All P (events_of phases)
all_of_round P [] are all = All-nil P
all_of_round P (p ∷ ps) are all =
    let first = repeat p.count p.events in
    All-append P p.events (events_of ps) (once_of P p.count p.events (All-head IsPhase p ps are).some (all_left P first (round_of ps) all)) (all_of_round P ps (All-tail IsPhase p ps are) (all_right P first (round_of ps) all))

slice_some : (P : Event → Type 0) (xs : List Event) (i : ℕ) → All P xs → IfSome (slice_get xs i) P
slice_some P [] i all = tt
slice_some P (x ∷ xs) zero all = All-head P x xs all
slice_some P (x ∷ xs) (suc i) all = slice_some P xs i (All-tail P x xs all)

-- a fact of all of them is one of all events of the script
pub of_all_events : (P : Event → Type 0) (s : ScriptView) → All P (events_of s.phases) → OfAllEvents P s
of_all_events P s all place =
    let n = rounds_for s.rounds place in
    slice_some P (repeat n (round_of s.phases)) place (repeat_all P n (round_of s.phases) (round_of_all P s.phases all))

followed_all : (P : Event → Type 0) (s : ScriptView) (xs : List Event) → Follows s 0 xs → OfAllEvents P s → All P xs
followed_all P s xs follows all k d within =
    let same : 0 + k ≡ k = omega arith in
    let e : event_at s k ≡ Some (get_or xs k d) = ap (event_at s) (sym same) ∙ follows k within ∙ slice_get-get_or xs k d within in
    subst (λ o. IfSome o P) e (all k)

pub all_events_of : (P : Event → Type 0) (s : ScriptView) → IsScript s → OfAllEvents P s → All P (events_of s.phases)
all_events_of P s is all = go s.rounds s.phases is all where
  go : (rounds : Option ℕ) (phases : List PhaseView) → IsScript (script_of rounds phases) → OfAllEvents P (script_of rounds phases) → All P (events_of phases)
  go None phases is all =
      all_of_round P phases is.phases (once_of P 1 (round_of phases) (omega arith) (followed_all P (script_of None phases) (repeat 1 (round_of phases)) (follows_rounds phases is 1) all))
  go (Some n) phases is all =
      let xs = repeat n (round_of phases) in
      let follows : Follows (script_of (Some n) phases) 0 xs = λ k within. ap (slice_get xs) (omega arith) in
      all_of_round P phases is.phases (once_of P n (round_of phases) is.rounds.0 (followed_all P (script_of (Some n) phases) xs follows all))

-- ---- what the code keeps
abbrev IsGapOf : Option ℕ → List Event → Type 0
IsGapOf None es = (least : ℕ) → All (IsAtLeast least) es
IsGapOf (Some g) es = (least : ℕ) → (least ≤ g) ↔ All (IsAtLeast least) es

abbrev HasLogged : Bool → (Event → Bool) → List Event → Type 0
HasLogged b is_such es = (b ≡ false) ↔ All (λ e. is_such e ≡ false) es

record IsBlocks (b : Blocks) (es : List Event) : Type 0 where
  gap : IsGapOf b.gap es
  timers : HasLogged b.timers is_timer_event es
  sleeps : HasLogged b.sleeps is_sleep_event es
  waits : HasLogged b.waits is_wait_event es

same_gap : (o : Option ℕ) (es : List Event) (e : Event) → ((least : ℕ) → IsAtLeast least e) → IsGapOf o es → IsGapOf o (es ++ e ∷ [])
same_gap None es e any h = λ least. All-push (IsAtLeast least) es e (h least) (any least)
same_gap (Some g) es e any h =
    λ least. ((λ l. All-push (IsAtLeast least) es e ((h least).0 l) (any least)), (λ all. (h least).1 (all_left (IsAtLeast least) es (e ∷ []) all)))

lower_gap : (o : Option ℕ) (es : List Event) (e : Event) (n : ℕ) → ((least : ℕ) → (least ≤ n) ↔ IsAtLeast least e) → IsGapOf o es → IsGapOf (lesser_gap o n) (es ++ e ∷ [])
lower_gap None es e n is h =
    λ least. ((λ l. All-push (IsAtLeast least) es e (h least) ((is least).0 l)), (λ all. (is least).1 (last_of (IsAtLeast least) es e all)))
lower_gap (Some g) es e n is h =
    λ least. (
      (λ l. All-push (IsAtLeast least) es e ((h least).0 (grind (arith, l))) ((is least).0 (grind (arith, l)))),
      (λ all. let a = (h least).1 (all_left (IsAtLeast least) es (e ∷ []) all) in let b = (is least).1 (last_of (IsAtLeast least) es e all) in grind (arith, a, b)),
    )

still_none : (b : Bool) (is_such : Event → Bool) (es : List Event) (e : Event) → is_such e ≡ false → HasLogged b is_such es → HasLogged b is_such (es ++ e ∷ [])
still_none b is_such es e not_such h =
    ((λ f. All-push (λ v. is_such v ≡ false) es e (h.0 f) not_such), (λ all. h.1 (all_left (λ v. is_such v ≡ false) es (e ∷ []) all)))

one_now : (is_such : Event → Bool) (es : List Event) (e : Event) → is_such e ≡ true → HasLogged true is_such (es ++ e ∷ [])
one_now is_such es e such =
    ((λ f. absurd (false≢true (sym f))), (λ all. absurd (false≢true (sym (last_of (λ v. is_such v ≡ false) es e all) ∙ such))))

block_more : (b : Blocks) (es : List Event) (e : Event) → IsBlocks b es → IsBlocks (with_block b e) (es ++ e ∷ [])
block_more b es (Run n) is = record {
  gap = same_gap b.gap es (Run n) (λ least. tt) is.gap;
  timers = still_none b.timers is_timer_event es (Run n) refl is.timers;
  sleeps = still_none b.sleeps is_sleep_event es (Run n) refl is.sleeps;
  waits = still_none b.waits is_wait_event es (Run n) refl is.waits;
}
block_more b es (Sleep n) is = record {
  gap = lower_gap b.gap es (Sleep n) n (λ least. ((λ h. h), (λ h. h))) is.gap;
  timers = still_none b.timers is_timer_event es (Sleep n) refl is.timers;
  sleeps = one_now is_sleep_event es (Sleep n) refl;
  waits = still_none b.waits is_wait_event es (Sleep n) refl is.waits;
}
block_more b es (Timer n) is = record {
  gap = lower_gap b.gap es (Timer n) n (λ least. ((λ h. h), (λ h. h))) is.gap;
  timers = one_now is_timer_event es (Timer n) refl;
  sleeps = still_none b.sleeps is_sleep_event es (Timer n) refl is.sleeps;
  waits = still_none b.waits is_wait_event es (Timer n) refl is.waits;
}
block_more b es Wait is = record {
  gap = same_gap b.gap es Wait (λ least. tt) is.gap;
  timers = still_none b.timers is_timer_event es Wait refl is.timers;
  sleeps = still_none b.sleeps is_sleep_event es Wait refl is.sleeps;
  waits = one_now is_wait_event es Wait refl;
}

append_all : {X : Type 0} (xs ys zs : List X) → (xs ++ ys) ++ zs ≡ xs ++ (ys ++ zs)
append_all [] ys zs = refl
append_all (x ∷ xs) ys zs = ap (λ l. x ∷ l) (append_all xs ys zs)

blocks_from : (es before : List Event) (b : Blocks) → IsBlocks b before → IsBlocks (with_blocks b es) (before ++ es)
blocks_from [] before b is = subst (IsBlocks b) (sym (append_none before)) is
blocks_from (e ∷ es) before b is =
    subst (IsBlocks (with_blocks (with_block b e) es)) (append_all before (e ∷ []) es) (blocks_from es (before ++ e ∷ []) (with_block b e) (block_more b before e is))

phases_block : (ps : List PhaseView) (before : List Event) (b : Blocks) → IsBlocks b before → IsBlocks (fold (λ c p. with_blocks c p.events) b ps) (before ++ events_of ps)
phases_block [] before b is = subst (IsBlocks b) (sym (append_none before)) is
phases_block (p ∷ ps) before b is =
    let c = with_blocks b p.events in
    subst (IsBlocks (fold (λ d q. with_blocks d q.events) c ps)) (append_all before p.events (events_of ps)) (phases_block ps (before ++ p.events) c (blocks_from p.events before b is))

blocks_are : (ps : List PhaseView) → IsBlocks (blocks_of_phases ps) (events_of ps)
blocks_are ps =
    phases_block ps [] no_blocks
    (record {
      gap = λ least. All-nil (IsAtLeast least);
      timers = ((λ e. All-nil (λ v. is_timer_event v ≡ false)), (λ all. refl));
      sleeps = ((λ e. All-nil (λ v. is_sleep_event v ≡ false)), (λ all. refl));
      waits = ((λ e. All-nil (λ v. is_wait_event v ≡ false)), (λ all. refl));
    })

-- ---- of a script
gap_by : (s : ScriptView) (o : Option ℕ) → IsScript s → IsGapOf o (events_of s.phases) → IsGapMin s o
gap_by s None is h = λ least. of_all_events (IsAtLeast least) s (h least)
gap_by s (Some g) is h = λ least. ((λ l. of_all_events (IsAtLeast least) s ((h least).0 l)), (λ all. (h least).1 (all_events_of (IsAtLeast least) s is all)))

pub gap_is : (s : ScriptView) → IsScript s → IsGapMin s (blocks_of_phases s.phases).gap
gap_is s is = gap_by s (blocks_of_phases s.phases).gap is (blocks_are s.phases).gap

none_is : (s : ScriptView) (b : Bool) (is_such : Event → Bool) → IsScript s → HasLogged b is_such (events_of s.phases) → (b ≡ false) ↔ HasNone is_such s
none_is s b is_such is h =
    ((λ f. of_all_events (λ e. is_such e ≡ false) s (h.0 f)), (λ all. h.1 (all_events_of (λ e. is_such e ≡ false) s is all)))

alike_by : (w t l : Bool) → (not w && not (t && l)) ≡ true → (w ≡ false) × ((t ≡ false) ⊎ (l ≡ false))
alike_by true t l e = absurd (false≢true e)
alike_by false false l e = (refl, inl refl)
alike_by false true false e = (refl, inr refl)
alike_by false true true e = absurd (false≢true e)

by_alike : (w t l : Bool) → w ≡ false → (t ≡ false) ⊎ (l ≡ false) → (not w && not (t && l)) ≡ true
by_alike true t l e o = absurd (false≢true (sym e))
by_alike false false l e o = refl
by_alike false true false e o = refl
by_alike false true true e (inl x) = absurd (false≢true (sym x))
by_alike false true true e (inr x) = absurd (false≢true (sym x))

pub alike_is : (s : ScriptView) → IsScript s → IsTrue (are_alike (blocks_of_phases s.phases)) ↔ BlocksAlike s
alike_is s is =
    let b = blocks_of_phases s.phases in
    let are = blocks_are s.phases in
    let t = none_is s b.timers is_timer_event is are.timers in
    let l = none_is s b.sleeps is_sleep_event is are.sleeps in
    let w = none_is s b.waits is_wait_event is are.waits in (
      (λ e.
          let h = alike_by b.waits b.timers b.sleeps e in
          (w.0 h.0, elim h.1 as (λ o. HasNone is_timer_event s ⊎ HasNone is_sleep_event s) [ inl x ↦ inl (t.0 x) | inr x ↦ inr (l.0 x) ])),
      (λ h.
          by_alike b.waits b.timers b.sleeps (w.1 h.0)
          (elim h.1 as (λ o. (b.timers ≡ false) ⊎ (b.sleeps ≡ false)) [ inl x ↦ inl (t.1 x) | inr x ↦ inr (l.1 x) ])),
    )

-- ---- WHAT IT ASKS FOR
pub demand_is : (s : ScriptView) (rounds : Option ℕ) (phases : List PhaseView) (w : Option ℕ) (r : Span) (b : Blocks) (a : Bool) → IsScript s → phases ≡ s.phases → rounds ≡ s.rounds → r ≡ span_of_round phases → w ≡ work_max_by rounds r
    → b ≡ blocks_of_phases phases → a ≡ are_alike b → IsDemand s (record { work_max = w; gap_min = b.gap; alike = a })
demand_is s rounds phases w r b a is phases_same rounds_same r_is w_is b_is a_is =
    let work : work_max_by s.rounds (span_of_round s.phases) ≡ w =
    sym (w_is ∙ (λ i. work_max_by (rounds_same i) ((r_is ∙ ap span_of_round phases_same) i))) in
    let blocks : blocks_of_phases s.phases ≡ b = sym (b_is ∙ ap blocks_of_phases phases_same) in
    record {
      work = subst (IsWorkMax s) work (work_is s is);
      gaps = subst (λ (c : Blocks). IsGapMin s c.gap) blocks (gap_is s is);
      alike = subst (λ x. IsTrue x ↔ BlocksAlike s) (ap are_alike blocks ∙ sym a_is) (alike_is s is);
    }
