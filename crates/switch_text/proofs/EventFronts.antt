-- What is at hand of several runs and before a cut, as it is written: the switches, and what
-- happens.
use Rattle.std.proofs.Common.{◌≡◌, ◌≢◌, inl, inr, ℕ, zero, suc, ◌+◌, ◌<◌, ◌≤◌, Option, Some, None, Bool, true, false, cond, List, [], ◌∷◌, ◌++◌, length, map, take, set, get_or, refl, sym, ap, subst, ◌∙◌, append-nil, arith}
use Rattle.std.specs.Prelude.{All, filter}
use Rattle.std.specs.List.{AllByRecursion, flat_map}
use Rattle.std.proofs.KnownBytes.{Appends-nil}
use Rattle.std.proofs.lemmas.List.{length-map, get_or_default, get_or-map, get_or-take, get_or-set_same, get_or-set_other, length-take-le}
use Rattle.std.proofs.lemmas.List.Elements.{recursion_from_All}
use Rattle.std.proofs.lemmas.Bool.{cases_lt}
use Rattle.domain_run.specs.declared.happened.What.{What}
use Rattle.domain_run.specs.declared.happened.What.TheVariants.{JobEnds, NextReleased, Spent, Cut, Replenished, Released, WokenSpent}
use Rattle.domain_run.specs.declared.happened.Happened.{Happened}
use Rattle.domain_run.specs.Happened.{kind_rank}
use Rattle.switch_text.specs.declared.run.Run.{Run}
use Rattle.switch_text.specs.declared.logged.DomainEvents.{DomainEvents}
use Rattle.switch_text.specs.Names.{name_of_task}
use Rattle.switch_text.specs.Line.{task_part}
use Rattle.switch_text.specs.LoggedLine.{stands_in_front, event_fields, logged_line_of}
use Rattle.switch_text.specs.Trace.{SwitchesView, Entry}
use Rattle.switch_text.specs.Runs.{views}
use Rattle.switch_text.specs.Events.{LoggedView, Event, logged_event, logged_events, switch_events, all_events, in_sequence, lines_of_events}
use Rattle.switch_text.specs.EventLines.{logged_view, logged_views, IsLogged}
use Rattle.switch_text.specs.SlicedTrace.{SlicedView, wholes, all_entries}
use Rattle.switch_text.specs.SlicedEvents.{SlicedEventsView, EventRun, whole_logged_run, logged_runs, events_in}
use Rattle.switch_text.specs.private.Sending.{Sends}
use Rattle.switch_text.specs.private.Sliced.{runs_before, names_by}
use Rattle.switch_text.specs.private.LoggedMerging.{is_line_logged}
use Rattle.switch_text.specs.private.EventMerging.{of_entry}
use Rattle.switch_text.specs.private.EventSlicing.{sequence_lines, logged_run_before, logged_runs_before, logged_run_from_cut, logged_runs_from_cut, switches_part, names_logged_by, IsLoggedFront}
use Rattle.switch_text.proofs.EventsUnderWay.{all_switches-are}
use Rattle.switch_text.proofs.SliceFronts.{AreFronts, fronts_entries}

-- ---- a line by other names that give its task the same name

same_front : (f g : ℕ → List ℕ) (number : ℕ) → f number ≡ g number → task_part f (Some number) ≡ task_part g (Some number)
unfolding task_part
same_front f g number same = rw same refl

same_idle : (f g : ℕ → List ℕ) → task_part f None ≡ task_part g None
unfolding task_part
same_idle f g = refl

same_fields : (f g : ℕ → List ℕ) (cpu number : ℕ) (what : What) → f number ≡ g number → event_fields f cpu number what ≡ event_fields g cpu number what
unfolding event_fields
same_fields f g cpu number what same = rw same refl

same_in_front : (f g : ℕ → List ℕ) (what : What) (number : ℕ) → f number ≡ g number → task_part f (stands_in_front what number) ≡ task_part g (stands_in_front what number)
same_in_front f g JobEnds number same = same_front f g number same
same_in_front f g (NextReleased d) number same = same_front f g number same
same_in_front f g (Spent d) number same = same_front f g number same
same_in_front f g Cut number same = same_idle f g
same_in_front f g (Replenished d) number same = same_idle f g
same_in_front f g (Released d) number same = same_idle f g
same_in_front f g (WokenSpent d) number same = same_idle f g

logged_line_same : (f g : ℕ → List ℕ) (base : ℕ) (h : Happened) → f h.number ≡ g h.number → logged_line_of f base h ≡ logged_line_of g base h
unfolding logged_line_of
logged_line_same f g base h same = rw (same_in_front f g h.what h.number same, same_fields f g (base + h.cpu) h.number h.what same) refl

abbrev named_logged : ℕ → (ℕ → List ℕ) → List Happened → LoggedView
named_logged base names hs = record { base = base; names = names; happened = hs }

same_event : (base : ℕ) (f g : ℕ → List ℕ) (hs : List Happened) (h : Happened) → f h.number ≡ g h.number → logged_event (named_logged base f hs) h ≡ logged_event (named_logged base g hs) h
same_event base f g hs h same = ap (λ (line : List ℕ). with_line line) (logged_line_same f g base h same)
  where
    with_line : List ℕ → Event
    with_line line = record { time = h.time; rank = kind_rank h.what; cpu = base + h.cpu; number = h.number; line = line }

same_events : (base : ℕ) (f g : ℕ → List ℕ) (whole hs : List Happened) → AllByRecursion (λ h. f h.number ≡ g h.number) hs
    → map (logged_event (named_logged base f whole)) (filter is_line_logged hs) ≡ map (logged_event (named_logged base g whole)) (filter is_line_logged hs)
same_events base f g whole [] all = refl
same_events base f g whole (h ∷ hs) all =
    let more = same_events base f g whole hs all.1 in
    elim (is_line_logged h) as (λ b. map (logged_event (named_logged base f whole)) (cond b (h ∷ filter is_line_logged hs) (filter is_line_logged hs)) ≡ map (logged_event (named_logged base g whole)) (cond b (h ∷ filter is_line_logged hs) (filter is_line_logged hs))) [
      | true ↦ ap (λ (e : Event). e ∷ map (logged_event (named_logged base f whole)) (filter is_line_logged hs)) (same_event base f g whole h all.0) ∙ ap (λ (es : List Event). logged_event (named_logged base g whole) h ∷ es) more
      | false ↦ more
    ]

-- ---- what is logged

logged_front_events : (cut : Option ℕ) (v : SlicedEventsView) (t : DomainEvents) → IsLoggedFront cut v t → logged_events (logged_view t) ≡ logged_events (logged_run_before cut v).logged
logged_front_events cut v t is =
    let names = name_of_task t.names.now in
    let hs = t.happened.now in
    let same = same_events t.base names v.names hs hs (recursion_from_All (λ (h : Happened). names h.number ≡ v.names h.number) hs is.names) in
    same ∙ ap (λ (xs : List Happened). logged_events (named_logged t.base v.names xs)) is.happened ∙ ap (λ (b : ℕ). logged_events (named_logged b v.names (logged_run_before cut v).logged.happened)) is.base

-- by their places
abbrev pub AreLoggedFronts : Option ℕ → List SlicedEventsView → List DomainEvents → Type 0
AreLoggedFronts cut vs ts = (i : ℕ) (d : SlicedEventsView) (t : DomainEvents) → i < length vs → IsLoggedFront cut (get_or vs i d) (get_or ts i t)

logged_fronts_events : (cut : Option ℕ) (vs : List SlicedEventsView) (ts : List DomainEvents) → length ts ≡ length vs → AreLoggedFronts cut vs ts → flat_map logged_events (logged_views ts) ≡ flat_map logged_events (map (λ r. r.logged) (logged_runs_before cut vs))
logged_fronts_events cut [] [] long are = refl
logged_fronts_events cut [] (t ∷ ts) long are = absurd (omega (arith, long))
logged_fronts_events cut (v ∷ vs) [] long are = absurd (omega (arith, long))
logged_fronts_events cut (v ∷ vs) (t ∷ ts) long are =
    ap (λ (es : List Event). es ++ flat_map logged_events (logged_views ts)) (logged_front_events cut v t (are 0 v t (omega arith)))
    ∙ ap (λ (es : List Event). logged_events (logged_run_before cut v).logged ++ es) (logged_fronts_events cut vs ts (omega (arith, long)) (λ i d u h. are (suc i) d u (omega (arith, h))))

pub fronts_tellable : (cut : Option ℕ) (vs : List SlicedEventsView) (ts : List DomainEvents) → length ts ≡ length vs → AreLoggedFronts cut vs ts → All IsLogged ts
fronts_tellable cut [] ts long are = λ i t h. absurd (omega (arith, long, h))
fronts_tellable cut (v ∷ vs) ts long are = λ i t h. (are i v t (omega (arith, long, h))).tellable

-- one place more
pub logged_fronts_set : {X : Type 0} (f : X → SlicedEventsView) (cut : Option ℕ) (xs : List X) (ts : List DomainEvents) (i : ℕ) (x : X) (t : DomainEvents) → i < length ts → i < length xs
    → ((k : ℕ) (s : X) (u : DomainEvents) → k < i → IsLoggedFront cut (f (get_or xs k s)) (get_or ts k u)) → x ≡ get_or xs i x → IsLoggedFront cut (f x) t
    → (k : ℕ) (s : X) (u : DomainEvents) → k < i + 1 → IsLoggedFront cut (f (get_or xs k s)) (get_or (set ts i t) k u)
logged_fronts_set {X = X} f cut xs ts i x t inside within so_far at is k s u h = elim (cases_lt k i) [
  | inl less ↦
      let other : k ≢ i = omega (arith, less) in
      subst (λ (q : DomainEvents). IsLoggedFront cut (f (get_or xs k s)) q) (sym (get_or-set_other ts i k t u other)) (so_far k s u less)
  | inr more ↦
      let same : i ≡ k = omega (arith, more, h) in
      let here : IsLoggedFront cut (f (get_or xs i s)) (get_or (set ts i t) i u) =
      subst (λ (q : DomainEvents). IsLoggedFront cut (f (get_or xs i s)) q) (sym (get_or-set_same ts i t u inside)) (subst (λ (y : X). IsLoggedFront cut (f y) t) (at ∙ get_or_default xs i x s within) is) in
      subst (λ (j : ℕ). IsLoggedFront cut (f (get_or xs j s)) (get_or (set ts i t) j u)) same here
]

-- by the places of what they are the fronts of
pub logged_fronts_of : {X : Type 0} (f : X → SlicedEventsView) (cut : Option ℕ) (xs : List X) (ts : List DomainEvents) (n : ℕ) → n ≡ length xs → ((k : ℕ) (s : X) (t : DomainEvents) → k < length xs → IsLoggedFront cut (f (get_or xs k s)) (get_or ts k t)) → AreLoggedFronts cut (map f xs) (take n ts)
logged_fronts_of f cut [] ts n is are = λ k d t h. absurd (omega (arith, h))
logged_fronts_of f cut (x ∷ xs) ts n is are = λ k d t h.
    let inside : k < length (x ∷ xs) = omega (arith, h, length-map (x ∷ xs) f) in
    let front = are k x t inside in
    let at = get_or-map f (x ∷ xs) k x d inside in
    let taken = get_or-take n ts k t (omega (arith, inside, is)) in
    subst (λ (v : SlicedEventsView). IsLoggedFront cut v (get_or (take n ts) k t)) (sym at) (subst (λ (q : DomainEvents). IsLoggedFront cut (f (get_or (x ∷ xs) k x)) q) (sym taken) front)

pub logged_fronts_long : {X : Type 0} (f : X → SlicedEventsView) (xs : List X) (ts : List DomainEvents) (n : ℕ) → n ≡ length xs → n ≤ length ts → length (take n ts) ≡ length (map f xs)
logged_fronts_long f xs ts n is le = omega (arith, length-take-le n ts le, is, length-map xs f)

-- ---- switches

before_parts : {X : Type 0} (f : X → SlicedEventsView) (cut : Option ℕ) (xs : List X) → runs_before cut (map (λ x. switches_part (f x)) xs) ≡ map (λ r. r.run) (logged_runs_before cut (map f xs))
before_parts f cut [] = refl
before_parts f cut (x ∷ xs) = ap (λ (rs : List SwitchesView). (logged_run_before cut (f x)).run ∷ rs) (before_parts f cut xs)

pub whole_parts : {X : Type 0} (f : X → SlicedEventsView) (xs : List X) → wholes (map (λ x. switches_part (f x)) xs) ≡ map (λ r. r.run) (logged_runs (map f xs))
whole_parts f [] = refl
whole_parts f (x ∷ xs) = ap (λ (rs : List SwitchesView). (whole_logged_run (f x)).run ∷ rs) (whole_parts f xs)

-- the events before the cut are those of the fronts
pub fronts_are : {X : Type 0} (f : X → SlicedEventsView) (cut : Option ℕ) (xs : List X) (runs : List Run) (ts : List DomainEvents) → length runs ≡ length (map (λ x. switches_part (f x)) xs) → length ts ≡ length (map f xs)
    → AreFronts cut (map (λ x. switches_part (f x)) xs) runs → AreLoggedFronts cut (map f xs) ts → all_events (views runs) (logged_views ts) ≡ events_in (logged_runs_before cut (map f xs))
fronts_are f cut xs runs ts long logged_long are logged =
    let parts = map (λ x. switches_part (f x)) xs in
    let before = map (λ r. r.run) (logged_runs_before cut (map f xs)) in
    let switches : flat_map switch_events (views runs) ≡ flat_map switch_events before = sym (all_switches-are (views runs)) ∙ ap (map of_entry) (fronts_entries cut parts runs long are)
    ∙ all_switches-are (runs_before cut parts) ∙ ap (flat_map switch_events) (before_parts f cut xs) in
    ap (λ (es : List Event). es ++ flat_map switch_events (views runs)) (logged_fronts_events cut (map f xs) ts logged_long logged)
    ∙ ap (λ (es : List Event). flat_map logged_events (map (λ r. r.logged) (logged_runs_before cut (map f xs))) ++ es) switches

-- no run has no lines
pub no_events : {X : Type 0} (f : X → SlicedEventsView) (cut : Option ℕ) (before : Option (List ℕ)) (waiting : List ℕ) (xs : List X) → xs ≡ [] → Sends before before (waiting ++ sequence_lines (events_in (logged_runs_before cut (map f xs)))) 0 waiting
unfolding in_sequence lines_of_events
no_events f cut before waiting xs none = record {
  gone = [];
  taken = Appends-nil before;
  count = refl;
  whole = ap (λ (ys : List _). waiting ++ sequence_lines (events_in (logged_runs_before cut (map f ys)))) none ∙ append-nil waiting;
}

-- ---- one run after the other changes

pub logged_runs_set : {X : Type 0} (f : X → SlicedEventsView) (xs : List X) (i : ℕ) (y d : X) → whole_logged_run (f y) ≡ whole_logged_run (f (get_or xs i d)) → logged_runs (map f (set xs i y)) ≡ logged_runs (map f xs)
logged_runs_set f [] i y d same = refl
logged_runs_set f (x ∷ xs) zero y d same = ap (λ (v : EventRun). v ∷ logged_runs (map f xs)) same
logged_runs_set f (x ∷ xs) (suc i) y d same = ap (λ (vs : List EventRun). whole_logged_run (f x) ∷ vs) (logged_runs_set f xs i y d same)

-- the first `i` runs have forgotten what is before the cut, the others not yet
abbrev pub HaveForgottenLogged : Option ℕ → ℕ → List SlicedEventsView → List SlicedEventsView → Type 0
HaveForgottenLogged cut i [] [] = Unit {0}
HaveForgottenLogged cut i [] (n ∷ news) = ⊥
HaveForgottenLogged cut i (o ∷ olds) [] = ⊥
HaveForgottenLogged cut zero (o ∷ olds) (n ∷ news) = (n ≡ o) × HaveForgottenLogged cut zero olds news
HaveForgottenLogged cut (suc i) (o ∷ olds) (n ∷ news) = (n ≡ logged_run_from_cut cut o) × HaveForgottenLogged cut i olds news

pub logged_forgotten_none : (cut : Option ℕ) (vs : List SlicedEventsView) → HaveForgottenLogged cut 0 vs vs
logged_forgotten_none cut [] = tt
logged_forgotten_none cut (v ∷ vs) = (refl, logged_forgotten_none cut vs)

pub logged_forgotten_more : {X : Type 0} (f : X → SlicedEventsView) (cut : Option ℕ) (i : ℕ) (olds xs : List X) (y d : X) → HaveForgottenLogged cut i (map f olds) (map f xs) → i < length xs → f y ≡ logged_run_from_cut cut (f (get_or xs i d))
    → HaveForgottenLogged cut (suc i) (map f olds) (map f (set xs i y))
logged_forgotten_more f cut i olds [] y d so_far h is = absurd (omega (arith, h))
logged_forgotten_more f cut zero [] (x ∷ xs) y d so_far h is = absurd so_far
logged_forgotten_more f cut (suc i) [] (x ∷ xs) y d so_far h is = absurd so_far
logged_forgotten_more f cut zero (o ∷ olds) (x ∷ xs) y d so_far h is = (is ∙ ap (logged_run_from_cut cut) so_far.0, so_far.1)
logged_forgotten_more f cut (suc i) (o ∷ olds) (x ∷ xs) y d so_far h is = (so_far.0, logged_forgotten_more f cut i olds xs y d so_far.1 (omega (arith, h)) is)

pub logged_forgotten_left : (cut : Option ℕ) (i : ℕ) (olds news : List SlicedEventsView) → length olds ≤ i → HaveForgottenLogged cut i olds news → news ≡ logged_runs_from_cut cut olds
logged_forgotten_left cut i [] [] h all = refl
logged_forgotten_left cut i [] (n ∷ news) h all = absurd all
logged_forgotten_left cut i (o ∷ olds) [] h all = absurd all
logged_forgotten_left cut zero (o ∷ olds) (n ∷ news) h all = absurd (omega (arith, h))
logged_forgotten_left cut (suc i) (o ∷ olds) (n ∷ news) h all = ap (λ (v : SlicedEventsView). v ∷ news) all.0 ∙ ap (λ (vs : List SlicedEventsView). logged_run_from_cut cut o ∷ vs) (logged_forgotten_left cut i olds news (omega (arith, h)) all.1)
