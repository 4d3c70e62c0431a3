-- What the collected runs are, once they are joined.
use Rattle.std.proofs.Common.{◌≡◌, ℕ, ◌<◌, ◌^◌, inl, inr, ⊎_elim, true, false, List, [], ◌∷◌, length, get_or, Option, Some, None, Vec, Global, refl, sym, ap, ◌∙◌, arith, subst}
use Rattle.std.specs.Prelude.{reverse, All, IfSome, nat_lt}
use Rattle.std.specs.List.{AllByRecursion, cons_option, list_all}
use Rattle.std.proofs.lemmas.Bool.{cases_Bool, and_parts, and_from, ltb-true, lt-ltb}
use Rattle.std.proofs.lemmas.List.Elements.{recursion_from_All, All-from_recursion}
use Rattle.std.proofs.lemmas.List.Sorted.{IsPermutation-reverse, IsPermutation-sym, All-permutation}
use Rattle.recorded_text.specs.declared.step.Step.{Step}
use Rattle.trace_compare.specs.declared.run.Run.{Run}
use Rattle.trace_compare.specs.declared.task.TaskRuns.{TaskRuns}
use Rattle.trace_compare.specs.Runs.{next_time, is_of, run_until, raw_runs, runs_of, are_longer, length_of, noise_of, IsShort}
use Rattle.trace_compare.specs.Tasks.{AreTasksOf, HaveSmallTimes, AreAllLonger, IsNoise}
use Rattle.trace_compare.specs.private.Behind.{Lists, IsCollected, AreShortLists, AreRunsSettled}

next_small : (cpu : ℕ) (steps : List Step) → AllByRecursion (λ s. s.time < 2 ^ 61) steps → IfSome (next_time cpu steps) (λ t. t < 2 ^ 61)
next_small cpu [] h = tt
next_small cpu (s ∷ ss) h =
    ⊎_elim (λ yes. rw yes h.0) (λ no. rw no (next_small cpu ss h.1)) (cases_Bool (Rattle.std.specs.Prelude.nat_eq s.cpu cpu))

short_run : (s : Step) (o : Option ℕ) (runs : List Run) → s.time < 2 ^ 61 → IfSome o (λ t. t < 2 ^ 61) → AllByRecursion IsShort runs → AllByRecursion IsShort (cons_option (Rattle.std.specs.Option.option_map (run_until s) o) runs)
short_run s None runs l h all = all
short_run s (Some t) runs l h all = (record { forward = omega arith; small = omega (arith, l, h) }, all)

raw_short : (j : ℕ) (steps : List Step) → AllByRecursion (λ s. s.time < 2 ^ 61) steps → AllByRecursion IsShort (raw_runs j steps)
unfolding raw_runs
raw_short j [] h = tt
raw_short j (s ∷ ss) h =
    ⊎_elim (λ yes. rw yes (short_run s (next_time s.cpu ss) (raw_runs j ss) h.0 (next_small s.cpu ss h.1) (raw_short j ss h.1))) (λ no. rw no (raw_short j ss h.1)) (cases_Bool (is_of j s))

-- the runs of a list that lies the other way round
turned : (xs : List Run) → All IsShort (reverse xs) → All IsShort xs
turned xs all = All-permutation IsShort (reverse xs) xs (IsPermutation-sym xs (reverse xs) (IsPermutation-reverse xs)) all

pub collected_short : (runs : Lists) (many : ℕ) (steps : List Step) → HaveSmallTimes steps → IsCollected runs many steps → AreShortLists runs
collected_short runs many steps small h = λ j d l.
    turned (get_or runs j d).items (subst (All IsShort) (sym (h.lists j d (omega (arith, l, h.many)))) (All-from_recursion IsShort (raw_runs j steps) (raw_short j steps (recursion_from_All (λ s. s.time < 2 ^ 61) steps small))))

-- ---- the noise

abbrev Longer : Run → Type 0
Longer r = 100 < length_of r

each_longer : (rs : List Run) → are_longer 100 rs ≡ true → AllByRecursion Longer rs
each_longer [] h = tt
each_longer (r ∷ rs) h = let p = and_parts (nat_lt 100 (length_of r)) (are_longer 100 rs) h in (ltb-true _ _ p.0, each_longer rs p.1)

are_each : (rs : List Run) → AllByRecursion Longer rs → are_longer 100 rs ≡ true
are_each [] h = refl
are_each (r ∷ rs) h = and_from (nat_lt 100 (length_of r)) (are_longer 100 rs) (lt-ltb _ _ h.0) (are_each rs h.1)

lists_longer : (lists : Lists) → list_all (λ rs. are_longer 100 rs.items) lists ≡ true → AllByRecursion (λ (v : Vec Run Global). are_longer 100 v.items ≡ true) lists
lists_longer [] h = tt
lists_longer (v ∷ vs) h = let p = and_parts (are_longer 100 v.items) (list_all (λ rs. are_longer 100 rs.items) vs) h in (p.0, lists_longer vs p.1)

longer_lists : (lists : Lists) → AllByRecursion (λ (v : Vec Run Global). are_longer 100 v.items ≡ true) lists → list_all (λ rs. are_longer 100 rs.items) lists ≡ true
longer_lists [] h = refl
longer_lists (v ∷ vs) h = and_from (are_longer 100 v.items) (list_all (λ rs. are_longer 100 rs.items) vs) h.0 (longer_lists vs h.1)

-- some list is there to speak of
some_list : (lists : Lists) (j : ℕ) → j < length lists → Vec Run Global
some_list [] j l = absurd (omega (arith, l))
some_list (v ∷ vs) j l = v

all_longer_is : (runs : Lists) (many : ℕ) (steps : List Step) → IsCollected runs many steps → list_all (λ rs. are_longer 100 rs.items) runs ≡ true → AreAllLonger steps many
all_longer_is runs many steps h each = λ j l.
    let inside : j < length runs = omega (arith, l, h.many) in
    let d = some_list runs j inside in
    let one : are_longer 100 (get_or runs j d).items ≡ true = All-from_recursion (λ (v : Vec Run Global). are_longer 100 v.items ≡ true) runs (lists_longer runs each) j d inside in
    let here : All Longer (get_or runs j d).items = All-from_recursion Longer (get_or runs j d).items (each_longer (get_or runs j d).items one) in
    subst (All Longer) (h.lists j d l) (All-permutation Longer (get_or runs j d).items (reverse (get_or runs j d).items) (IsPermutation-reverse (get_or runs j d).items) here)

not_longer_is : (runs : Lists) (many : ℕ) (steps : List Step) → IsCollected runs many steps → list_all (λ rs. are_longer 100 rs.items) runs ≡ false → AreAllLonger steps many → ⊥
not_longer_is runs many steps h some all =
    let each : All (λ (v : Vec Run Global). are_longer 100 v.items ≡ true) runs = λ j d l.
    let back : All Longer (get_or runs j d).items = All-permutation Longer (reverse (get_or runs j d).items) (get_or runs j d).items (IsPermutation-sym (get_or runs j d).items (reverse (get_or runs j d).items) (IsPermutation-reverse (get_or runs j d).items)) (subst (All Longer) (sym (h.lists j d (omega (arith, l, h.many)))) (all j (omega (arith, l, h.many)))) in
    are_each (get_or runs j d).items (recursion_from_All Longer (get_or runs j d).items back) in
    let yes = longer_lists runs (recursion_from_All (λ (v : Vec Run Global). are_longer 100 v.items ≡ true) runs each) in
    cc

pub noise_is : (asked : Option ℕ) (runs : Lists) (many : ℕ) (steps : List Step) → IsCollected runs many steps → IsNoise asked steps many (noise_of asked (list_all (λ rs. are_longer 100 rs.items) runs))
noise_is (Some n) runs many steps h = refl
noise_is None runs many steps h =
    ⊎_elim (λ yes. rw yes (inl (all_longer_is runs many steps h yes, refl))) (λ no. rw no (inr (not_longer_is runs many steps h no, refl))) (cases_Bool (list_all (λ rs. are_longer 100 rs.items) runs))

pub tasks_are : (noise many n : ℕ) (model recorded : List Step) (of_model of_recorded : Lists) (tasks : List TaskRuns) → IsCollected of_model many model → IsCollected of_recorded many recorded → n ≡ many → AreRunsSettled noise of_model of_recorded n tasks → AreTasksOf noise model recorded many tasks
tasks_are noise many n model recorded of_model of_recorded tasks a b e h = record {
  as_many = h.as_many ∙ e;
  of_model = λ j t l. let d = some_list of_model j (omega (arith, l, a.many)) in h.of_model j t d (omega (arith, l, e)) ∙ ap (runs_of noise) (a.lists j d l);
  of_recorded = λ j t l. let d = some_list of_recorded j (omega (arith, l, b.many)) in h.of_recorded j t d (omega (arith, l, e)) ∙ ap (runs_of noise) (b.lists j d l);
  sound = h.sound;
}
