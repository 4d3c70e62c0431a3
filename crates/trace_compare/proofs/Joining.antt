-- Runs that are joined are in turn.
use Rattle.std.proofs.Common.{◌≡◌, ℕ, suc, ◌+◌, ◌<◌, ◌≤◌, Bool, List, [], ◌∷◌, ◌++◌, length, get_or, drop, refl, sym, ap, ◌∙◌, arith, subst, append_assoc, ⊎_elim}
use Rattle.std.specs.Prelude.{nat_lt, nat_le, filter, All}
use Rattle.std.specs.List.{AllByRecursion}
use Rattle.std.proofs.lemmas.Bool.{cases_Bool, le-ltb, lt-ltb, ltb-false}
use Rattle.std.proofs.lemmas.List.Elements.{recursion_from_All}
use Rattle.std.proofs.lemmas.List.{nil_from_length, drop_all}
use Rattle.trace_compare.specs.declared.run.Run.{Run}
use Rattle.trace_compare.specs.Runs.{both, joined_on, joined_runs, length_of, long_runs, runs_of, InTurn, IsShort}

-- all that is made of later runs begins no earlier than a time
starts_after : (noise at : ℕ) (run : Run) (rs : List Run) → at ≤ run.start → run.start ≤ run.«end» → AllByRecursion IsShort rs → AllByRecursion (λ q. at ≤ q.start) (joined_on noise run rs)
unfolding joined_on
starts_after noise at run [] le forward all = (le, tt)
starts_after noise at run (r ∷ rs) le forward all =
    ⊎_elim
    (λ near. rw near (starts_after noise at (both run r) rs le (omega (arith, forward)) all.1))
    (λ far. let gap = ltb-false _ _ far in rw far (le, starts_after noise at r rs (omega (arith, le, forward, gap)) all.0.forward all.1))
    (cases_Bool (nat_lt r.start (run.«end» + noise)))

in_turn_on : (noise : ℕ) (run : Run) (rs : List Run) → run.start ≤ run.«end» → AllByRecursion IsShort rs → InTurn (joined_on noise run rs)
unfolding joined_on InTurn
in_turn_on noise run [] forward all = (forward, tt, tt)
in_turn_on noise run (r ∷ rs) forward all =
    ⊎_elim
    (λ near. rw near (in_turn_on noise (both run r) rs (omega (arith, forward)) all.1))
    (λ far. let gap = ltb-false _ _ far in rw far (forward, starts_after noise run.«end» r rs (omega (arith, gap)) all.0.forward all.1, in_turn_on noise r rs all.0.forward all.1))
    (cases_Bool (nat_lt r.start (run.«end» + noise)))

some_after : (p : Run → Bool) (at : ℕ) (rs : List Run) → AllByRecursion (λ q. at ≤ q.start) rs → AllByRecursion (λ q. at ≤ q.start) (filter p rs)
some_after p at [] h = tt
some_after p at (r ∷ rs) h =
    ⊎_elim (λ yes. rw yes (h.0, some_after p at rs h.1)) (λ no. rw no (some_after p at rs h.1)) (cases_Bool (p r))

some_in_turn : (p : Run → Bool) (rs : List Run) → InTurn rs → InTurn (filter p rs)
unfolding InTurn
some_in_turn p [] h = tt
some_in_turn p (r ∷ rs) h =
    ⊎_elim (λ yes. rw yes (h.0, some_after p r.«end» rs h.1, some_in_turn p rs h.2)) (λ no. rw no (some_in_turn p rs h.2)) (cases_Bool (p r))

pub runs_in_turn : (noise : ℕ) (run : Run) (rs : List Run) → run.start ≤ run.«end» → AllByRecursion IsShort rs → InTurn (long_runs noise (joined_on noise run rs))
runs_in_turn noise run rs forward all = some_in_turn (λ r. nat_le noise (length_of r)) (joined_on noise run rs) (in_turn_on noise run rs forward all)

-- a run that is joined to the open one, and one that closes it
pub near_step : (noise : ℕ) (run r : Run) (rs : List Run) → r.start < run.«end» + noise → joined_on noise run (r ∷ rs) ≡ joined_on noise (both run r) rs
unfolding joined_on
near_step noise run r rs h = rw (lt-ltb _ _ h) refl

pub far_step : (noise : ℕ) (run r : Run) (rs : List Run) → run.«end» + noise ≤ r.start → joined_on noise run (r ∷ rs) ≡ run ∷ joined_on noise r rs
unfolding joined_on
far_step noise run r rs h = rw (le-ltb _ _ h) refl

pub last_step : (noise : ℕ) (run : Run) → joined_on noise run [] ≡ run ∷ []
unfolding joined_on
last_step noise run = refl

pub joined_is : (noise : ℕ) (run : Run) (rs : List Run) → joined_runs noise (run ∷ rs) ≡ joined_on noise run rs
unfolding joined_runs
joined_is noise run rs = refl

pub none_joined : (noise : ℕ) → joined_runs noise [] ≡ []
unfolding joined_runs
none_joined noise = refl

pub none_in_turn : InTurn []
unfolding InTurn
none_in_turn = tt

kept_cons : (noise : ℕ) (run : Run) (rs : List Run) → long_runs noise (run ∷ rs) ≡ long_runs noise (run ∷ []) ++ long_runs noise rs
kept_cons noise run rs =
    ⊎_elim (λ yes. rw yes refl) (λ no. rw no refl) (cases_Bool (nat_le noise (length_of run)))

-- a run that is joined to the current one
pub told_near : (noise : ℕ) (runs : List Run) (current run : Run) (rest : List Run) → run.start < current.«end» + noise → runs ++ long_runs noise (joined_on noise (both current run) rest) ≡ runs ++ long_runs noise (joined_on noise current (run ∷ rest))
told_near noise runs current run rest h = ap (λ rs. runs ++ long_runs noise rs) (sym (near_step noise current run rest h))

-- a run that closes the current one
pub told_far : (noise : ℕ) (runs after : List Run) (current run : Run) (rest : List Run) → current.«end» + noise ≤ run.start → after ≡ runs ++ long_runs noise (current ∷ []) → after ++ long_runs noise (joined_on noise run rest) ≡ runs ++ long_runs noise (joined_on noise current (run ∷ rest))
told_far noise runs after current run rest h e =
    ap (λ rs. rs ++ long_runs noise (joined_on noise run rest)) e ∙ append_assoc runs (long_runs noise (current ∷ [])) (long_runs noise (joined_on noise run rest))
    ∙ ap (λ rs. runs ++ rs) (sym (ap (long_runs noise) (far_step noise current run rest h) ∙ kept_cons noise current (joined_on noise run rest)))

-- at the end the current run is closed
pub told_end : (noise : ℕ) (runs after : List Run) (current first : Run) (later : List Run) → after ≡ runs ++ long_runs noise (current ∷ []) → runs ++ long_runs noise (joined_on noise current []) ≡ long_runs noise (joined_on noise first later) → after ≡ runs_of noise (first ∷ later)
told_end noise runs after current first later e told =
    e ∙ ap (λ rs. runs ++ long_runs noise rs) (sym (last_step noise current)) ∙ told ∙ ap (long_runs noise) (sym (joined_is noise first later))

pub turn_of : (noise : ℕ) (first : Run) (later after : List Run) → All IsShort (first ∷ later) → after ≡ runs_of noise (first ∷ later) → InTurn after
turn_of noise first later after all e =
    let each = recursion_from_All IsShort (first ∷ later) all in
    subst InTurn (sym (e ∙ ap (long_runs noise) (joined_is noise first later))) (runs_in_turn noise first later each.0.forward each.1)

pub none_runs : (noise : ℕ) (raw runs : List Run) → length raw ≡ 0 → runs ≡ [] → runs ≡ runs_of noise raw
none_runs noise raw runs none e = e ∙ sym (ap (runs_of noise) (nil_from_length raw none) ∙ ap (long_runs noise) (none_joined noise))

pub none_turn : (runs : List Run) → runs ≡ [] → InTurn runs
none_turn runs e = subst InTurn (sym e) none_in_turn

pub short_later : (raw : List Run) (first : Run) (later : List Run) (i : ℕ) (d : Run) → raw ≡ first ∷ later → All IsShort raw → i < length later → IsShort (get_or later i d)
short_later raw first later i d e all l = let here : All IsShort (first ∷ later) = subst (All IsShort) e all in here (suc i) d (omega (arith, l))

pub short_first : (raw : List Run) (first : Run) (later : List Run) → raw ≡ first ∷ later → All IsShort raw → IsShort first
short_first raw first later e all = let here : All IsShort (first ∷ later) = subst (All IsShort) e all in here 0 first (omega arith)

pub none_short : (runs : List Run) → runs ≡ [] → All IsShort runs
none_short runs e = subst (All IsShort) (sym e) (λ i d h. absurd (omega (arith, h)))

-- all runs were taken, and the last one is closed
pub all_told : (noise : ℕ) (raw runs after : List Run) (current first : Run) (later : List Run) (i : ℕ) → raw ≡ first ∷ later → length later ≤ i → after ≡ runs ++ long_runs noise (current ∷ []) → runs ++ long_runs noise (joined_on noise current (drop i later)) ≡ long_runs noise (joined_on noise first later) → after ≡ runs_of noise raw
all_told noise raw runs after current first later i e l closed told =
    let ended : runs ++ long_runs noise (joined_on noise current []) ≡ long_runs noise (joined_on noise first later) = ap (λ rs. runs ++ long_runs noise (joined_on noise current rs)) (sym (drop_all i later l)) ∙ told in
    told_end noise runs after current first later closed ended ∙ ap (runs_of noise) (sym e)

pub all_in_turn : (noise : ℕ) (raw after : List Run) (first : Run) (later : List Run) → raw ≡ first ∷ later → All IsShort raw → after ≡ runs_of noise raw → InTurn after
all_in_turn noise raw after first later e all is = turn_of noise first later after (subst (All IsShort) e all) (is ∙ ap (runs_of noise) e)
