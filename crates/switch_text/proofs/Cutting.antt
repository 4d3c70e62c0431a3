-- THE CUT IN TIME: where some of the entries are before a time, and all others at it or later, the
-- first are in order by themselves, and the others after them.
use Rattle.std.proofs.Common.{◌≡◌, ℕ, ◌+◌, Bool, true, false, cond, not, Option, Some, None, List, [], ◌∷◌, ◌++◌, length, map, refl, sym, ap, ◌∙◌, append-nil, arith}
use Rattle.std.specs.Prelude.{filter}
use Rattle.std.specs.List.{AllByRecursion}
use Rattle.std.proofs.lemmas.Bool.{true≢false}
use Rattle.std.proofs.lemmas.Bool.Decides.{nat_tests}
use Rattle.std.proofs.lemmas.Grind.{flat_map-append}
use Rattle.std.proofs.lemmas.List.{length-append}
use Rattle.std.proofs.lemmas.List.Elements.{filter-append}
use Rattle.domain_run.specs.Switch.{Switch}
use Rattle.switch_text.specs.SlicedTrace.{SlicedView, whole_of, wholes, all_entries}
use Rattle.switch_text.specs.Trace.{SwitchesView, Entry, entry_of, entries_of, is_earlier, placed_in, entries_in_order, text_of_entries}
use Rattle.switch_text.specs.private.Sliced.{lines_in, is_before_cut, run_before, runs_before, run_from_cut, runs_from_cut, IsFinal}
use Rattle.switch_text.proofs.Order.{AllByRecursion-weaker, AllByRecursion-in_order, placed_in-first, not_later-from_earlier, length-in_order}

-- ---- what a test keeps

filter_holds_at : {X : Type 0} (p : X → Bool) (x : X) (xs : List X) (b : Bool) → p x ≡ b → AllByRecursion (λ y. p y ≡ true) (filter p xs) → AllByRecursion (λ y. p y ≡ true) (cond b (x ∷ filter p xs) (filter p xs))
filter_holds_at p x xs true is more = (is, more)
filter_holds_at p x xs false is more = more

pub filter_holds : {X : Type 0} (p : X → Bool) (xs : List X) → AllByRecursion (λ x. p x ≡ true) (filter p xs)
filter_holds p [] = tt
filter_holds p (x ∷ xs) = filter_holds_at p x xs (p x) refl (filter_holds p xs)

pub filter_none : {X : Type 0} (p : X → Bool) (xs : List X) → AllByRecursion (λ x. p x ≡ false) xs → filter p xs ≡ []
filter_none p [] all = refl
filter_none p (x ∷ xs) all = rw all.0 (filter_none p xs all.1)

pub filter_every : {X : Type 0} (p : X → Bool) (xs : List X) → AllByRecursion (λ x. p x ≡ true) xs → filter p xs ≡ xs
filter_every p [] all = refl
filter_every p (x ∷ xs) all = rw all.0 (ap (λ ys. x ∷ ys) (filter_every p xs all.1))

pub not_true : (b : Bool) → not b ≡ true → b ≡ false
not_true true is = sym is
not_true false is = refl

pub not_false : (b : Bool) → b ≡ false → not b ≡ true
not_false b is = ap not is

-- ---- entries

before_is_earlier : (cut : Option ℕ) (e f : Entry) → is_before_cut cut e.time ≡ true → is_before_cut cut f.time ≡ false → is_earlier e f ≡ true
before_is_earlier None e f p q = absurd (true≢false q)
before_is_earlier (Some t) e f p q = grind (arith, nat_tests)

abbrev early : Option ℕ → List Entry → List Entry
early cut es = filter (λ e. is_before_cut cut e.time) es

abbrev late : Option ℕ → List Entry → List Entry
late cut es = filter (λ e. not (is_before_cut cut e.time)) es

-- one before the cut goes among those before it, and another among the others
placed_early : (cut : Option ℕ) (e : Entry) (firsts lasts : List Entry) → is_before_cut cut e.time ≡ true → AllByRecursion (λ x. is_before_cut cut x.time ≡ false) lasts
    → placed_in e (firsts ++ lasts) ≡ placed_in e firsts ++ lasts
placed_early cut e [] lasts is all =
    placed_in-first e lasts (AllByRecursion-weaker (λ x. is_before_cut cut x.time ≡ false) (λ x. is_earlier x e ≡ false) lasts (λ x q. not_later-from_earlier e x (before_is_earlier cut e x is q)) all)
placed_early cut e (f ∷ firsts) lasts is all =
    let more = placed_early cut e firsts lasts is all in
    elim (is_earlier f e) as (λ b. cond b (f ∷ placed_in e (firsts ++ lasts)) (e ∷ f ∷ firsts ++ lasts) ≡ cond b (f ∷ placed_in e firsts) (e ∷ f ∷ firsts) ++ lasts) [ true ↦ ap (λ (es : List Entry). f ∷ es) more | false ↦ refl ]

placed_late : (cut : Option ℕ) (e : Entry) (firsts lasts : List Entry) → is_before_cut cut e.time ≡ false → AllByRecursion (λ x. is_before_cut cut x.time ≡ true) firsts
    → placed_in e (firsts ++ lasts) ≡ firsts ++ placed_in e lasts
placed_late cut e [] lasts is all = refl
placed_late cut e (f ∷ firsts) lasts is all = rw (before_is_earlier cut f e all.0 is) (ap (λ (es : List Entry). f ∷ es) (placed_late cut e firsts lasts is all.1))

early_in_order : (cut : Option ℕ) (es : List Entry) → AllByRecursion (λ x. is_before_cut cut x.time ≡ true) (entries_in_order (early cut es))
early_in_order cut es = AllByRecursion-in_order (λ x. is_before_cut cut x.time ≡ true) (early cut es) (filter_holds (λ e. is_before_cut cut e.time) es)

late_in_order : (cut : Option ℕ) (es : List Entry) → AllByRecursion (λ x. is_before_cut cut x.time ≡ false) (entries_in_order (late cut es))
late_in_order cut es =
    AllByRecursion-in_order (λ x. is_before_cut cut x.time ≡ false) (late cut es)
    (AllByRecursion-weaker (λ x. not (is_before_cut cut x.time) ≡ true) (λ x. is_before_cut cut x.time ≡ false) (late cut es) (λ x q. not_true (is_before_cut cut x.time) q) (filter_holds (λ e. not (is_before_cut cut e.time)) es))

cut_at : (cut : Option ℕ) (e : Entry) (es : List Entry) (b : Bool) → is_before_cut cut e.time ≡ b → entries_in_order es ≡ entries_in_order (early cut es) ++ entries_in_order (late cut es)
    → placed_in e (entries_in_order es) ≡ entries_in_order (cond b (e ∷ early cut es) (early cut es)) ++ entries_in_order (cond (not b) (e ∷ late cut es) (late cut es))
unfolding entries_in_order
cut_at cut e es true is so_far = ap (placed_in e) so_far ∙ placed_early cut e (entries_in_order (early cut es)) (entries_in_order (late cut es)) is (late_in_order cut es)
cut_at cut e es false is so_far = ap (placed_in e) so_far ∙ placed_late cut e (entries_in_order (early cut es)) (entries_in_order (late cut es)) is (early_in_order cut es)

pub in_order-cut : (cut : Option ℕ) (es : List Entry) → entries_in_order es ≡ entries_in_order (early cut es) ++ entries_in_order (late cut es)
unfolding entries_in_order
in_order-cut cut [] = refl
in_order-cut cut (e ∷ es) = cut_at cut e es (is_before_cut cut e.time) refl (in_order-cut cut es)

-- ---- runs

-- a test of the time of entries is that of their switches
filter_entries : (p : ℕ → Bool) (v : SwitchesView) (ss : List Switch) → filter (λ e. p e.time) (map (entry_of v) ss) ≡ map (entry_of v) (filter (λ s. p s.time) ss)
filter_entries p v [] = refl
filter_entries p v (s ∷ ss) =
    let more = filter_entries p v ss in
    elim (p s.time) as (λ b. cond b (entry_of v s ∷ filter (λ e. p e.time) (map (entry_of v) ss)) (filter (λ e. p e.time) (map (entry_of v) ss)) ≡ map (entry_of v) (cond b (s ∷ filter (λ s. p s.time) ss) (filter (λ s. p s.time) ss)))
    [ true ↦ ap (λ (es : List Entry). entry_of v s ∷ es) more | false ↦ more ]

early_of : (cut : Option ℕ) (r : SlicedView) → IsFinal cut r → early cut (entries_of (whole_of r)) ≡ entries_of (run_before cut r)
early_of cut r final =
    let p : Switch → Bool = λ s. is_before_cut cut s.time in
    filter_entries (is_before_cut cut) (whole_of r) (r.at_hand ++ r.to_come)
    ∙ ap (map (entry_of (whole_of r))) (filter-append p r.at_hand r.to_come ∙ ap (λ (ss : List Switch). filter p r.at_hand ++ ss) (filter_none p r.to_come final) ∙ append-nil (filter p r.at_hand))

late_of : (cut : Option ℕ) (r : SlicedView) → IsFinal cut r → late cut (entries_of (whole_of r)) ≡ entries_of (whole_of (run_from_cut cut r))
late_of cut r final =
    let p : Switch → Bool = λ s. not (is_before_cut cut s.time) in
    let all = AllByRecursion-weaker (λ (s : Switch). is_before_cut cut s.time ≡ false) (λ s. p s ≡ true) r.to_come (λ s q. not_false (is_before_cut cut s.time) q) final in
    filter_entries (λ t. not (is_before_cut cut t)) (whole_of r) (r.at_hand ++ r.to_come)
    ∙ ap (map (entry_of (whole_of r))) (filter-append p r.at_hand r.to_come ∙ ap (λ (ss : List Switch). filter p r.at_hand ++ ss) (filter_every p r.to_come all))

early_all : (cut : Option ℕ) (rs : List SlicedView) → AllByRecursion (IsFinal cut) rs → early cut (all_entries (wholes rs)) ≡ all_entries (runs_before cut rs)
early_all cut [] final = refl
early_all cut (r ∷ rs) final =
    filter-append (λ e. is_before_cut cut e.time) (entries_of (whole_of r)) (all_entries (wholes rs))
    ∙ ap (λ (es : List Entry). es ++ early cut (all_entries (wholes rs))) (early_of cut r final.0)
    ∙ ap (λ (es : List Entry). entries_of (run_before cut r) ++ es) (early_all cut rs final.1)

late_all : (cut : Option ℕ) (rs : List SlicedView) → AllByRecursion (IsFinal cut) rs → late cut (all_entries (wholes rs)) ≡ all_entries (wholes (runs_from_cut cut rs))
late_all cut [] final = refl
late_all cut (r ∷ rs) final =
    filter-append (λ e. not (is_before_cut cut e.time)) (entries_of (whole_of r)) (all_entries (wholes rs))
    ∙ ap (λ (es : List Entry). es ++ late cut (all_entries (wholes rs))) (late_of cut r final.0)
    ∙ ap (λ (es : List Entry). entries_of (whole_of (run_from_cut cut r)) ++ es) (late_all cut rs final.1)

-- THE LAW: the entries of the whole runs in order are those before the cut in order, and then those
-- of what is left
pub runs_cut : (cut : Option ℕ) (rs : List SlicedView) → AllByRecursion (IsFinal cut) rs
    → entries_in_order (all_entries (wholes rs)) ≡ entries_in_order (all_entries (runs_before cut rs)) ++ entries_in_order (all_entries (wholes (runs_from_cut cut rs)))
runs_cut cut rs final =
    in_order-cut cut (all_entries (wholes rs))
    ∙ ap (λ (es : List Entry). entries_in_order es ++ entries_in_order (late cut (all_entries (wholes rs)))) (early_all cut rs final)
    ∙ ap (λ (es : List Entry). entries_in_order (all_entries (runs_before cut rs)) ++ entries_in_order es) (late_all cut rs final)

-- so are their lines
pub lines_cut : (cut : Option ℕ) (rs : List SlicedView) → AllByRecursion (IsFinal cut) rs → lines_in (wholes rs) ≡ lines_in (runs_before cut rs) ++ lines_in (wholes (runs_from_cut cut rs))
unfolding text_of_entries
lines_cut cut rs final =
    ap text_of_entries (runs_cut cut rs final)
    ∙ flat_map-append (λ (e : Entry). e.line) (entries_in_order (all_entries (runs_before cut rs))) (entries_in_order (all_entries (wholes (runs_from_cut cut rs))))

pub count_cut : (cut : Option ℕ) (rs : List SlicedView) → AllByRecursion (IsFinal cut) rs
    → length (all_entries (wholes rs)) ≡ length (all_entries (runs_before cut rs)) + length (all_entries (wholes (runs_from_cut cut rs)))
count_cut cut rs final =
    let firsts = all_entries (runs_before cut rs) in
    let lasts = all_entries (wholes (runs_from_cut cut rs)) in
    omega (arith, length-in_order (all_entries (wholes rs)), ap length (runs_cut cut rs final), length-append (entries_in_order firsts) (entries_in_order lasts), length-in_order firsts, length-in_order lasts)
