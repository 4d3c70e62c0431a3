-- Laws of the trace text that callers may cite: the trace of one run, that only the names that
-- occur matter, and what it means that the entries are in order.
use Rattle.std.proofs.Common.{◌≡◌, ℕ, suc, ◌+◌, Bool, true, false, cond, List, [], ◌∷◌, ◌++◌, map, Option, Some, None, get_or, refl, ap, ◌∙◌, append-nil, arith}
use Rattle.std.specs.Prelude.{AllPairs, All, IsTrue, IfSome, filter, ◌&&◌, ◌==◌}
use Rattle.std.specs.List.{AllByRecursion, AllZip, flat_map}
use Rattle.std.proofs.lemmas.Bool.Decides.{nat_tests}
use Rattle.std.proofs.lemmas.List.Elements.{recursion_from_All}
use Rattle.domain_run.specs.Switch.{Switch}
use Rattle.domain_run.specs.declared.switch.PrevState.{PrevState}
use Rattle.switch_text.specs.Names.{SameNames}
use Rattle.switch_text.specs.Line.{title_of, comm_of, task_part, prev_part, next_part, switch_line}
use Rattle.switch_text.specs.Trace.{SwitchesView, Entry, entry_of, entries_of, is_earlier, placed_in, entries_in_order, header, text_of_entries, trace_of}
use Rattle.domain_run.specs.Switches.{is_switch_before}
use Rattle.switch_text.proofs.Order.{AllByRecursion-weaker, AllByRecursion-placed_in, placed_in-first, not_later-from_earlier, not_later_twice}

-- ---- the trace of one run

-- each entry is earlier than all that follow
abbrev pub IsRising : List Entry → Type 0
IsRising [] = Unit {0}
IsRising (e ∷ es) = AllByRecursion (λ x. is_earlier e x ≡ true) es × IsRising es

in_order-rising : (es : List Entry) → IsRising es → entries_in_order es ≡ es
unfolding entries_in_order
in_order-rising [] h = refl
in_order-rising (e ∷ es) h =
    ap (placed_in e) (in_order-rising es h.1) ∙ placed_in-first e es (AllByRecursion-weaker (λ x. is_earlier e x ≡ true) (λ x. is_earlier x e ≡ false) es (λ x q. not_later-from_earlier e x q) h.0)

pub is_earlier-entry : (r : SwitchesView) (a b : Switch) → IsTrue (is_switch_before a b) → is_earlier (entry_of r a) (entry_of r b) ≡ true
is_earlier-entry r a b h = grind (arith, nat_tests)

all_earlier : (r : SwitchesView) (s : Switch) (ss : List Switch) → AllByRecursion (λ x. IsTrue (is_switch_before s x)) ss → AllByRecursion (λ x. is_earlier (entry_of r s) x ≡ true) (map (entry_of r) ss)
all_earlier r s [] h = tt
all_earlier r s (x ∷ xs) h = (is_earlier-entry r s x h.0, all_earlier r s xs h.1)

pub IsRising-map : (r : SwitchesView) (ss : List Switch) → AllPairs (λ a b. IsTrue (is_switch_before a b)) ss → IsRising (map (entry_of r) ss)
IsRising-map r [] h = tt
IsRising-map r (s ∷ ss) h =
    let first : All (λ x. IsTrue (is_switch_before s x)) ss = λ k d lt. h 0 (suc k) d (omega arith) (omega arith) in
    let rest : AllPairs (λ a b. IsTrue (is_switch_before a b)) ss = λ i j d lt in'. h (suc i) (suc j) d (omega arith) (omega arith) in
    (all_earlier r s ss (recursion_from_All (λ x. IsTrue (is_switch_before s x)) ss first), IsRising-map r ss rest)

lines_of-map : (r : SwitchesView) (ss : List Switch) → text_of_entries (map (entry_of r) ss) ≡ flat_map (switch_line r.names r.base) ss
unfolding text_of_entries
lines_of-map r [] = refl
lines_of-map r (s ∷ ss) = ap (λ (xs : List ℕ). switch_line r.names r.base s ++ xs) (lines_of-map r ss)

-- the lines of one run in order are its lines as they stand
pub lines_of-one_run : (r : SwitchesView) → AllPairs (λ a b. IsTrue (is_switch_before a b)) r.switches → text_of_entries (entries_in_order (entries_of r ++ [])) ≡ flat_map (switch_line r.names r.base) r.switches
lines_of-one_run r h =
    let one : entries_in_order (entries_of r ++ []) ≡ entries_of r = ap entries_in_order (append-nil (entries_of r)) ∙ in_order-rising (entries_of r) (IsRising-map r r.switches h) in
    ap text_of_entries one ∙ lines_of-map r r.switches

-- the trace of one run is the header and its lines as they stand
pub trace_of-one_run : (r : SwitchesView) → AllPairs (λ a b. IsTrue (is_switch_before a b)) r.switches → trace_of (r ∷ []) ≡ header ++ flat_map (switch_line r.names r.base) r.switches
unfolding trace_of
trace_of-one_run r h = ap (λ (xs : List ℕ). header ++ xs) (lines_of-one_run r h)

-- ---- the names that occur

title_of-same : (f g : ℕ → List ℕ) (task : Option ℕ) → IfSome task (λ n. f n ≡ g n) → title_of f task ≡ title_of g task
title_of-same f g None h = refl
title_of-same f g (Some n) h = h

comm_of-same : (f g : ℕ → List ℕ) (cpu : ℕ) (task : Option ℕ) → IfSome task (λ n. f n ≡ g n) → comm_of f cpu task ≡ comm_of g cpu task
comm_of-same f g cpu None h = refl
comm_of-same f g cpu (Some n) h = h

pub task_part-same : (f g : ℕ → List ℕ) (task : Option ℕ) → IfSome task (λ n. f n ≡ g n) → task_part f task ≡ task_part g task
unfolding task_part
task_part-same f g task h = rw (title_of-same f g task h) refl

prev_part-same : (f g : ℕ → List ℕ) (cpu : ℕ) (task : Option ℕ) (state : PrevState) → IfSome task (λ n. f n ≡ g n) → prev_part f cpu task state ≡ prev_part g cpu task state
unfolding prev_part
prev_part-same f g cpu task state h = rw (comm_of-same f g cpu task h) refl

next_part-same : (f g : ℕ → List ℕ) (cpu : ℕ) (task : Option ℕ) → IfSome task (λ n. f n ≡ g n) → next_part f cpu task ≡ next_part g cpu task
unfolding next_part
next_part-same f g cpu task h = rw (comm_of-same f g cpu task h) refl

-- a line depends only on the names that occur in it
pub line_of-same_names : (f g : ℕ → List ℕ) (base : ℕ) (s : Switch) → SameNames f g s → switch_line f base s ≡ switch_line g base s
unfolding switch_line
line_of-same_names f g base s h = rw (task_part-same f g s.prev h.prev, prev_part-same f g (base + s.cpu) s.prev s.state h.prev, next_part-same f g (base + s.cpu) s.next h.next) refl

lines_by-recursion : (f g : ℕ → List ℕ) (base : ℕ) (ss : List Switch) → AllByRecursion (SameNames f g) ss → flat_map (switch_line f base) ss ≡ flat_map (switch_line g base) ss
lines_by-recursion f g base [] h = refl
lines_by-recursion f g base (s ∷ ss) h = ap (λ (xs : List ℕ). xs ++ flat_map (switch_line f base) ss) (line_of-same_names f g base s h.0) ∙ ap (λ (xs : List ℕ). switch_line g base s ++ xs) (lines_by-recursion f g base ss h.1)

-- so do lines
pub lines_of-same_names : (f g : ℕ → List ℕ) (base : ℕ) (ss : List Switch) → All (SameNames f g) ss → flat_map (switch_line f base) ss ≡ flat_map (switch_line g base) ss
lines_of-same_names f g base ss h = lines_by-recursion f g base ss (recursion_from_All (SameNames f g) ss h)

named_alike : (f g : ℕ → List ℕ) (task : Option ℕ) → ((number : ℕ) → f number ≡ g number) → IfSome task (λ n. f n ≡ g n)
named_alike f g None h = tt
named_alike f g (Some n) h = h n

-- names that agree at each number agree where they occur
pub SameNames-everywhere : (f g : ℕ → List ℕ) (ss : List Switch) → ((number : ℕ) → f number ≡ g number) → All (SameNames f g) ss
SameNames-everywhere f g ss h = λ k d lt. record { prev = named_alike f g (get_or ss k d).prev h; next = named_alike f g (get_or ss k d).next h }

-- two runs with one base and one list of switches, whose names agree where they occur
pub record SameRun (r q : SwitchesView) : Type 0 where
  pub base : r.base ≡ q.base
  pub switches : r.switches ≡ q.switches
  pub names : All (SameNames r.names q.names) r.switches

map_entry-same : (f g : ℕ → List ℕ) (base : ℕ) (all ss : List Switch) → AllByRecursion (SameNames f g) ss
    → map (entry_of (record { base = base; names = f; switches = all })) ss ≡ map (entry_of (record { base = base; names = g; switches = all })) ss
map_entry-same f g base all [] h = refl
map_entry-same f g base all (s ∷ ss) h =
    let one = line_of-same_names f g base s h.0 in
    let more = map_entry-same f g base all ss h.1 in
    cc

entries_of-same : (r q : SwitchesView) → SameRun r q → entries_of r ≡ entries_of q
entries_of-same r q h =
    let names = map_entry-same r.names q.names r.base r.switches r.switches (recursion_from_All (SameNames r.names q.names) r.switches h.names) in
    names ∙ ap (λ (b : ℕ). entries_of (record { base = b; names = q.names; switches = r.switches })) h.base
    ∙ ap (λ (ss : List Switch). entries_of (record { base = q.base; names = q.names; switches = ss })) h.switches

pub all_entries-same : (rs qs : List SwitchesView) → AllZip SameRun rs qs → flat_map entries_of rs ≡ flat_map entries_of qs
all_entries-same [] [] h = refl
all_entries-same [] (q ∷ qs) h = absurd h
all_entries-same (r ∷ rs) [] h = absurd h
all_entries-same (r ∷ rs) (q ∷ qs) h = ap (λ (es : List Entry). es ++ flat_map entries_of rs) (entries_of-same r q h.0) ∙ ap (λ (es : List Entry). entries_of q ++ es) (all_entries-same rs qs h.1)

-- a trace depends only on the names that occur in it
pub trace_of-same_names : (rs qs : List SwitchesView) → AllZip SameRun rs qs → trace_of rs ≡ trace_of qs
unfolding trace_of
trace_of-same_names rs qs h = ap (λ (es : List Entry). header ++ text_of_entries (entries_in_order es)) (all_entries-same rs qs h)

-- ---- what it means to be in order

-- no entry is later than one that follows it
abbrev pub IsInOrder : List Entry → Type 0
IsInOrder [] = Unit {0}
IsInOrder (e ∷ es) = AllByRecursion (λ x. is_earlier x e ≡ false) es × IsInOrder es

IsInOrder-placed_at : (e f : Entry) (fs : List Entry) (b : Bool) → is_earlier f e ≡ b → IsInOrder (f ∷ fs) → IsInOrder (placed_in e fs) → IsInOrder (cond b (f ∷ placed_in e fs) (e ∷ f ∷ fs))
IsInOrder-placed_at e f fs true q h more = (AllByRecursion-placed_in (λ x. is_earlier x f ≡ false) e fs (not_later-from_earlier f e q) h.0, more)
IsInOrder-placed_at e f fs false q h more =
    let others = AllByRecursion-weaker (λ x. is_earlier x f ≡ false) (λ x. is_earlier x e ≡ false) fs (λ x p. not_later_twice e f x q p) h.0 in
    ((q, others), h)

IsInOrder-placed_in : (e : Entry) (es : List Entry) → IsInOrder es → IsInOrder (placed_in e es)
IsInOrder-placed_in e [] h = (tt, tt)
IsInOrder-placed_in e (f ∷ fs) h = IsInOrder-placed_at e f fs (is_earlier f e) refl h (IsInOrder-placed_in e fs h.1)

pub IsInOrder-in_order : (es : List Entry) → IsInOrder (entries_in_order es)
unfolding entries_in_order
IsInOrder-in_order [] = tt
IsInOrder-in_order (e ∷ es) = IsInOrder-placed_in e (entries_in_order es) (IsInOrder-in_order es)

-- an entry of this time and CPU
abbrev pub is_at : ℕ → ℕ → Entry → Bool
is_at time cpu e = e.time == time && e.cpu == cpu

-- two entries of one time and CPU: neither is earlier
same_moment : (time cpu : ℕ) (e f : Entry) → is_at time cpu e ≡ true → is_at time cpu f ≡ true → is_earlier f e ≡ true → ⊥
same_moment time cpu e f p q lt = grind (arith, nat_tests)

swapped : (time cpu : ℕ) (e f : Entry) (fs : List Entry) (b c : Bool) → is_at time cpu e ≡ b → is_at time cpu f ≡ c → is_earlier f e ≡ true
    → cond c (f ∷ cond b (e ∷ filter (is_at time cpu) fs) (filter (is_at time cpu) fs)) (cond b (e ∷ filter (is_at time cpu) fs) (filter (is_at time cpu) fs))
    ≡ cond b (e ∷ cond c (f ∷ filter (is_at time cpu) fs) (filter (is_at time cpu) fs)) (cond c (f ∷ filter (is_at time cpu) fs) (filter (is_at time cpu) fs))
swapped time cpu e f fs true true p q lt = absurd (same_moment time cpu e f p q lt)
swapped time cpu e f fs true false p q lt = refl
swapped time cpu e f fs false true p q lt = refl
swapped time cpu e f fs false false p q lt = refl

filter-placed_at : (time cpu : ℕ) (e f : Entry) (fs : List Entry) (b : Bool) → is_earlier f e ≡ b → filter (is_at time cpu) (placed_in e fs) ≡ filter (is_at time cpu) (e ∷ fs)
    → filter (is_at time cpu) (cond b (f ∷ placed_in e fs) (e ∷ f ∷ fs)) ≡ filter (is_at time cpu) (e ∷ f ∷ fs)
filter-placed_at time cpu e f fs true lt more =
    ap (λ (es : List Entry). cond (is_at time cpu f) (f ∷ es) es) more ∙ swapped time cpu e f fs (is_at time cpu e) (is_at time cpu f) refl refl lt
filter-placed_at time cpu e f fs false le more = refl

filter-placed_in : (time cpu : ℕ) (e : Entry) (es : List Entry) → filter (is_at time cpu) (placed_in e es) ≡ filter (is_at time cpu) (e ∷ es)
filter-placed_in time cpu e [] = refl
filter-placed_in time cpu e (f ∷ fs) = filter-placed_at time cpu e f fs (is_earlier f e) refl (filter-placed_in time cpu e fs)

-- at each time and CPU the same entries stand as before, in the order in which they stood
pub filter-in_order : (time cpu : ℕ) (es : List Entry) → filter (is_at time cpu) (entries_in_order es) ≡ filter (is_at time cpu) es
unfolding entries_in_order
filter-in_order time cpu [] = refl
filter-in_order time cpu (e ∷ es) =
    filter-placed_in time cpu e (entries_in_order es) ∙ ap (λ (fs : List Entry). cond (is_at time cpu e) (e ∷ fs) fs) (filter-in_order time cpu es)
