-- What comes next of all that happens and of all switches.
use Rattle.std.proofs.Common.{◌≡◌, ℕ, ◌<◌, ◌≤◌, Bool, true, false, cond, List, [], ◌∷◌, ◌++◌, length, map, Option, Some, None, refl, sym, ap, subst, ◌∙◌, append_assoc, arith}
use Rattle.std.specs.Prelude.{not, ◌||◌, nat_lt}
use Rattle.std.specs.List.{AllByRecursion}
use Rattle.std.proofs.lemmas.Bool.Decides.{nat_tests}
use Rattle.std.proofs.lemmas.List.{length-append, map-append}
use Rattle.domain_run.specs.declared.happened.What.{What}
use Rattle.domain_run.specs.declared.happened.What.TheVariants.{JobEnds, NextReleased, Spent, Cut, Replenished, Released, WokenSpent}
use Rattle.domain_run.specs.Happened.{kind_rank}
use Rattle.switch_text.specs.declared.run.Run.{Run}
use Rattle.switch_text.specs.declared.logged.DomainEvents.{DomainEvents}
use Rattle.switch_text.specs.declared.merge.Next.{Next}
use Rattle.switch_text.specs.declared.logged_merge.NextLogged.{NextLogged}
use Rattle.switch_text.specs.declared.event_merge.NextEvent.{NextEvent}
use Rattle.switch_text.specs.Trace.{Entry, is_earlier}
use Rattle.switch_text.specs.Runs.{views}
use Rattle.switch_text.specs.Events.{LoggedView, Event, comes_before, in_sequence, lines_of_events}
use Rattle.switch_text.specs.EventLines.{logged_views}
use Rattle.switch_text.specs.private.Merging.{entries_left, places_stepped, next_entry, IsNextOf, IsNextFound}
use Rattle.switch_text.specs.private.LoggedMerging.{is_line_logged, left_logged, count_left, next_logged_event, IsLoggedAhead, IsShown, IsNextOrCut, IsNextLogged, IsLoggedFound}
use Rattle.switch_text.specs.private.EventMerging.{EventPlaces, of_entry, left_events, after_next, first_event_of, IsEventStep, IsNextEvent, IsEventFound}
use Rattle.switch_text.proofs.Order.{AllByRecursion-weaker, AllByRecursion-append}
use Rattle.switch_text.proofs.EventOrder.{in_sequence-first}

-- ---- times of what is left

not_sooner-logged : (e x : Event) → comes_before x e ≡ false → e.time ≤ x.time
not_sooner-logged e x p = grind (arith, nat_tests)

sooner-logged : (e x : Event) → comes_before e x ≡ true → e.time ≤ x.time
sooner-logged e x p = grind (arith, nat_tests)

-- none of it is before the next
times_logged : (logged : List LoggedView) (places : List ℕ) (i : ℕ) (e : Event) → IsLoggedAhead logged places i e → AllByRecursion (λ x. e.time ≤ x.time) (left_logged logged places)
times_logged logged places i e a =
    let front = AllByRecursion-weaker (λ x. comes_before e x ≡ true) (λ x. e.time ≤ x.time) a.before (λ x q. sooner-logged e x q) a.earlier in
    let back = AllByRecursion-weaker (λ x. comes_before x e ≡ false) (λ x. e.time ≤ x.time) a.after (λ x q. not_sooner-logged e x q) a.not_later in
    let self : e.time ≤ e.time = omega arith in
    subst (λ (es : List Event). AllByRecursion (λ x. e.time ≤ x.time) es) (sym a.split) (AllByRecursion-append (λ x. e.time ≤ x.time) a.before (e ∷ a.after) front (self, back))

not_sooner-entry : (e x : Entry) → is_earlier x e ≡ false → e.time ≤ x.time
not_sooner-entry e x p = grind (arith, nat_tests)

sooner-entry : (e x : Entry) → is_earlier e x ≡ true → e.time ≤ x.time
sooner-entry e x p = grind (arith, nat_tests)

times_left : (runs : List Run) (places : List ℕ) (n : Next) → IsNextOf runs places n → AllByRecursion (λ x. (next_entry n).time ≤ x.time) (entries_left (views runs) places)
times_left runs places n next =
    let a = next.ahead in
    let e = next_entry n in
    let front = AllByRecursion-weaker (λ x. is_earlier e x ≡ true) (λ x. e.time ≤ x.time) a.before (λ x q. sooner-entry e x q) a.earlier in
    let back = AllByRecursion-weaker (λ x. is_earlier x e ≡ false) (λ x. e.time ≤ x.time) a.after (λ x q. not_sooner-entry e x q) a.not_later in
    let self : e.time ≤ e.time = omega arith in
    subst (λ (es : List Entry). AllByRecursion (λ x. e.time ≤ x.time) es) (sym a.split) (AllByRecursion-append (λ x. e.time ≤ x.time) a.before (e ∷ a.after) front (self, back))

-- ---- switches among what happens

rank-small : (what : What) → kind_rank what < 7
rank-small JobEnds = omega arith
rank-small (NextReleased d) = omega arith
rank-small (Spent d) = omega arith
rank-small Cut = omega arith
rank-small (Replenished d) = omega arith
rank-small (Released d) = omega arith
rank-small (WokenSpent d) = omega arith

switch_not_before : (e : Event) (x : Entry) → e.rank < 7 → e.time ≤ x.time → comes_before (of_entry x) e ≡ false
switch_not_before e x small le = grind (arith, nat_tests)

switch_before : (x : Event) (e : Entry) → e.time < x.time → comes_before (of_entry e) x ≡ true
switch_before x e lt = grind (arith, nat_tests)

entry_before : (e x : Entry) → is_earlier e x ≡ true → comes_before (of_entry e) (of_entry x) ≡ true
entry_before e x p = grind (arith, nat_tests)

entry_not_before : (e x : Entry) → is_earlier x e ≡ false → comes_before (of_entry x) (of_entry e) ≡ false
entry_not_before e x p = grind (arith, nat_tests)

AllByRecursion-of_entry : (P : Event → Type 0) (Q : Entry → Type 0) (es : List Entry) → ((x : Entry) → Q x → P (of_entry x)) → AllByRecursion Q es → AllByRecursion P (map of_entry es)
AllByRecursion-of_entry P Q [] f all = tt
AllByRecursion-of_entry P Q (x ∷ xs) f all = (f x all.0, AllByRecursion-of_entry P Q xs f all.1)

-- ---- a step

-- of what is left, an event that none comes before, with all that is left after it
IsStep-first : (before after : List Event) (e : Event) (all rest : List Event) → all ≡ before ++ e ∷ after → rest ≡ before ++ after
    → AllByRecursion (λ x. comes_before e x ≡ true) before → AllByRecursion (λ x. comes_before x e ≡ false) after → IsEventStep all rest e.line
unfolding lines_of_events
IsStep-first before after e all rest split moved earlier not_later =
    let first = ap in_sequence split ∙ in_sequence-first before e after earlier not_later ∙ ap (λ (es : List Event). e ∷ in_sequence es) (sym moved) in
    record {
      lines = ap lines_of_events first;
      count = λ short. omega (arith, ap length split, ap length moved, length-append before (e ∷ after), length-append before after);
    }

IsStep-logged : (logged : List LoggedView) (places : List ℕ) (i : ℕ) (e : Event) (left : List Entry) → IsLoggedAhead logged places i e → e.rank < 7 → AllByRecursion (λ x. e.time ≤ x.time) left
    → IsEventStep (left_logged logged places ++ map of_entry left) (left_logged logged (places_stepped places i) ++ map of_entry left) e.line
IsStep-logged logged places i e left a small late =
    let switches = map of_entry left in
    let following = AllByRecursion-of_entry (λ x. comes_before x e ≡ false) (λ x. e.time ≤ x.time) left (λ x q. switch_not_before e x small q) late in
    IsStep-first a.before (a.after ++ switches) e (left_logged logged places ++ switches) (left_logged logged (places_stepped places i) ++ switches)
    (ap (λ (es : List Event). es ++ switches) a.split ∙ append_assoc a.before (e ∷ a.after) switches) (ap (λ (es : List Event). es ++ switches) a.moved ∙ append_assoc a.before a.after switches)
    a.earlier (AllByRecursion-append (λ x. comes_before x e ≡ false) a.after switches a.not_later following)

IsStep-switch : (happens : List Event) (runs : List Run) (places : List ℕ) (n : Next) → IsNextOf runs places n → AllByRecursion (λ x. (next_entry n).time < x.time) happens
    → IsEventStep (happens ++ map of_entry (entries_left (views runs) places)) (happens ++ map of_entry (entries_left (views runs) (places_stepped places n.index))) (next_entry n).line
IsStep-switch happens runs places n next late =
    let a = next.ahead in
    let e = next_entry n in
    let logged = AllByRecursion-weaker (λ x. e.time < x.time) (λ x. comes_before (of_entry e) x ≡ true) happens (λ x q. switch_before x e q) late in
    let front = AllByRecursion-of_entry (λ x. comes_before (of_entry e) x ≡ true) (λ x. is_earlier e x ≡ true) a.before (λ x q. entry_before e x q) a.earlier in
    let back = AllByRecursion-of_entry (λ x. comes_before x (of_entry e) ≡ false) (λ x. is_earlier x e ≡ false) a.after (λ x q. entry_not_before e x q) a.not_later in
    IsStep-first (happens ++ map of_entry a.before) (map of_entry a.after) (of_entry e) (happens ++ map of_entry (entries_left (views runs) places)) (happens ++ map of_entry (entries_left (views runs) (places_stepped places n.index)))
    (ap (λ (es : List Entry). happens ++ map of_entry es) a.split ∙ ap (λ (es : List Event). happens ++ es) (map-append of_entry a.before (e ∷ a.after)) ∙ sym (append_assoc happens (map of_entry a.before) (of_entry e ∷ map of_entry a.after)))
    (ap (λ (es : List Entry). happens ++ map of_entry es) a.moved ∙ ap (λ (es : List Event). happens ++ es) (map-append of_entry a.before a.after) ∙ sym (append_assoc happens (map of_entry a.before) (map of_entry a.after)))
    (AllByRecursion-append (λ x. comes_before (of_entry e) x ≡ true) happens (map of_entry a.before) logged front) back

-- a cut leaves as much
IsStep-cut : (logged logged' switches : List Event) → logged' ≡ logged → IsEventStep (logged ++ switches) (logged' ++ switches) []
IsStep-cut logged logged' switches same = record {
  lines = ap (λ (es : List Event). lines_of_events (in_sequence (es ++ switches))) (sym same);
  count = λ short. omega (arith, ap (λ (es : List Event). length (es ++ switches)) same);
}

-- ---- which of both

-- something that has a line, and no switch before it
logged_shown : (runs : List Run) (logged : List DomainEvents) (p : EventPlaces) (n : NextLogged) → length logged ≤ 8 → is_line_logged n.happened.now ≡ true → IsNextLogged logged p.logged n
    → AllByRecursion (λ x. n.happened.now.time ≤ x.time) (entries_left (views runs) p.switches) → IsNextEvent runs logged p (NextEvent.DomainEvents n)
logged_shown runs logged p n few shown next late =
    let found : IsLoggedAhead (logged_views logged) p.logged n.index (next_logged_event n) × IsShown n = subst (IsNextOrCut logged p.logged n) shown next.next in
    let step = IsStep-logged (logged_views logged) p.logged n.index (next_logged_event n) (entries_left (views runs) p.switches) found.0 (rank-small n.happened.now.what) late in
    let inside : n.index < length logged = next.inside in
    let less : count_left (logged_views logged) (places_stepped p.logged n.index) < count_left (logged_views logged) p.logged = next.smaller in
    record {
      step = subst (λ (b : Bool). IsEventStep (left_events runs logged p) (left_events runs logged (after_next p (NextEvent.DomainEvents n))) (cond b (next_logged_event n).line [])) (sym shown) step;
      smaller = omega (arith, less);
      places = (omega arith, next.place);
      shown = λ h. found.1;
    }

logged_cut : (runs : List Run) (logged : List DomainEvents) (p : EventPlaces) (n : NextLogged) → length logged ≤ 8 → is_line_logged n.happened.now ≡ false → IsNextLogged logged p.logged n → IsNextEvent runs logged p (NextEvent.DomainEvents n)
logged_cut runs logged p n few cut next =
    let same : left_logged (logged_views logged) (places_stepped p.logged n.index) ≡ left_logged (logged_views logged) p.logged = subst (IsNextOrCut logged p.logged n) cut next.next in
    let step = IsStep-cut (left_logged (logged_views logged) p.logged) (left_logged (logged_views logged) (places_stepped p.logged n.index)) (map of_entry (entries_left (views runs) p.switches)) same in
    let inside : n.index < length logged = next.inside in
    let less : count_left (logged_views logged) (places_stepped p.logged n.index) < count_left (logged_views logged) p.logged = next.smaller in
    record {
      step = subst (λ (b : Bool). IsEventStep (left_events runs logged p) (left_events runs logged (after_next p (NextEvent.DomainEvents n))) (cond b (next_logged_event n).line [])) (sym cut) step;
      smaller = omega (arith, less);
      places = (omega arith, next.place);
      shown = λ h. absurd cc;
    }

-- a switch before all that happens
switch_next : (runs : List Run) (logged : List DomainEvents) (p : EventPlaces) (n : Next) → length runs ≤ 8 → IsNextOf runs p.switches n
    → AllByRecursion (λ x. (next_entry n).time < x.time) (left_logged (logged_views logged) p.logged) → IsNextEvent runs logged p (NextEvent.Switch n)
switch_next runs logged p n few next late =
    let a = next.ahead in
    let inside : n.index < length runs = next.run.inside in
    record {
      step = IsStep-switch (left_logged (logged_views logged) p.logged) runs p.switches n next late;
      smaller = omega (arith, ap length a.split, ap length a.moved, length-append a.before (next_entry n ∷ a.after), length-append a.before a.after);
      places = (omega arith, next.place);
      shown = (next.printed, (next.run, next.among));
    }

-- where a switch is before the next of what happens, it is before all of it
all_later : (logged : List DomainEvents) (p : EventPlaces) (n : NextLogged) (s : Next) → IsNextLogged logged p.logged n → is_line_logged n.happened.now ≡ true → nat_lt s.switch.now.time n.happened.now.time ≡ true
    → AllByRecursion (λ x. s.switch.now.time < x.time) (left_logged (logged_views logged) p.logged)
all_later logged p n s next shown lt =
    let found : IsLoggedAhead (logged_views logged) p.logged n.index (next_logged_event n) × IsShown n = subst (IsNextOrCut logged p.logged n) shown next.next in
    let before : s.switch.now.time < n.happened.now.time = grind (arith, nat_tests) in
    AllByRecursion-weaker (λ x. n.happened.now.time ≤ x.time) (λ x. s.switch.now.time < x.time) (left_logged (logged_views logged) p.logged) (λ x q. omega (arith, before, q)) (times_logged (logged_views logged) p.logged n.index (next_logged_event n) found.0)

-- where none is, the next of what happens is not after any
none_sooner : (runs : List Run) (p : EventPlaces) (n : NextLogged) (s : Next) → IsNextOf runs p.switches s → nat_lt s.switch.now.time n.happened.now.time ≡ false
    → AllByRecursion (λ x. n.happened.now.time ≤ x.time) (entries_left (views runs) p.switches)
none_sooner runs p n s next ge =
    let before : n.happened.now.time ≤ s.switch.now.time = grind (arith, nat_tests) in
    AllByRecursion-weaker (λ x. s.switch.now.time ≤ x.time) (λ x. n.happened.now.time ≤ x.time) (entries_left (views runs) p.switches) (λ x q. omega (arith, before, q)) (times_left runs p.switches s next)

logged_alone : (runs : List Run) (logged : List DomainEvents) (p : EventPlaces) (n : NextLogged) (b : Bool) → length logged ≤ 8 → is_line_logged n.happened.now ≡ b → IsNextLogged logged p.logged n → entries_left (views runs) p.switches ≡ []
    → IsNextEvent runs logged p (NextEvent.DomainEvents n)
logged_alone runs logged p n true few shown next none = logged_shown runs logged p n few shown next (subst (λ (es : List Entry). AllByRecursion (λ x. n.happened.now.time ≤ x.time) es) (sym none) tt)
logged_alone runs logged p n false few cut next none = logged_cut runs logged p n few cut next

of_both : (runs : List Run) (logged : List DomainEvents) (p : EventPlaces) (n : NextLogged) (s : Next) (b c : Bool) → length runs ≤ 8 → length logged ≤ 8 → is_line_logged n.happened.now ≡ b → nat_lt s.switch.now.time n.happened.now.time ≡ c
    → IsNextLogged logged p.logged n → IsNextOf runs p.switches s → IsEventFound runs logged p (cond (not b || not c) (Some (NextEvent.DomainEvents n)) (Some (NextEvent.Switch s)))
of_both runs logged p n s false c few_runs few_logged cut sooner next other = logged_cut runs logged p n few_logged cut next
of_both runs logged p n s true false few_runs few_logged shown sooner next other = logged_shown runs logged p n few_logged shown next (none_sooner runs p n s other sooner)
of_both runs logged p n s true true few_runs few_logged shown sooner next other = switch_next runs logged p s few_runs other (all_later logged p n s next shown sooner)

pub IsEventFound-first_of : (runs : List Run) (logged : List DomainEvents) (p : EventPlaces) (happens : Option NextLogged) (switch : Option Next) → length runs ≤ 8 → length logged ≤ 8
    → IsLoggedFound logged p.logged happens → IsNextFound runs p.switches switch → IsEventFound runs logged p (first_event_of happens switch)
IsEventFound-first_of runs logged p None None few_runs few_logged none none' =
    ap (λ (es : List Event). es ++ map of_entry (entries_left (views runs) p.switches)) none ∙ ap (map of_entry) none'
IsEventFound-first_of runs logged p None (Some s) few_runs few_logged none next =
    switch_next runs logged p s few_runs next (subst (λ (es : List Event). AllByRecursion (λ x. s.switch.now.time < x.time) es) (sym none) tt)
IsEventFound-first_of runs logged p (Some n) None few_runs few_logged next none = logged_alone runs logged p n (is_line_logged n.happened.now) few_logged refl next none
IsEventFound-first_of runs logged p (Some n) (Some s) few_runs few_logged next other =
    of_both runs logged p n s (is_line_logged n.happened.now) (nat_lt s.switch.now.time n.happened.now.time) few_runs few_logged refl refl next other
