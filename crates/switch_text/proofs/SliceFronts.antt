-- The switches at hand of several runs that are before a cut, as they are written.
use Rattle.std.proofs.Common.{◌≡◌, ◌≢◌, inl, inr, ℕ, zero, suc, ◌+◌, ◌<◌, ◌≤◌, Option, List, [], ◌∷◌, ◌++◌, length, map, take, set, get_or, refl, sym, ap, subst, ◌∙◌, append-nil, arith}
use Rattle.std.specs.Prelude.{All}
use Rattle.std.specs.List.{AllZip, AllByRecursion}
use Rattle.std.proofs.KnownBytes.{Appends-nil}
use Rattle.std.proofs.lemmas.List.{length-map, map-set, take_more_set, take_all, get_or_default, get_or-map, get_or-take, get_or-set_same, get_or-set_other, length-take-le}
use Rattle.std.proofs.lemmas.Bool.{cases_lt}
use Rattle.switch_text.specs.declared.run.Run.{Run}
use Rattle.switch_text.specs.Names.{name_of_task, SameNames}
use Rattle.switch_text.specs.Runs.{views, IsPrintable}
use Rattle.switch_text.specs.SlicedTrace.{SlicedView, whole_of, wholes, all_entries}
use Rattle.switch_text.specs.Trace.{SwitchesView, entries_in_order, text_of_entries}
use Rattle.switch_text.specs.private.Ready.{RunsHaveNames}
use Rattle.switch_text.specs.private.Sending.{Sends}
use Rattle.switch_text.specs.private.Sliced.{lines_in, runs_before, run_from_cut, runs_from_cut, names_by, IsSplit, IsFront}
use Rattle.switch_text.proofs.CallerLemmas.{SameRun, all_entries-same}

-- ---- what is written of them

-- by their places
abbrev pub AreFronts : Option ℕ → List SlicedView → List Run → Type 0
AreFronts cut rs runs = (i : ℕ) (d : SlicedView) (r : Run) → i < length rs → IsFront cut (get_or rs i d) (get_or runs i r)

fronts_zipped : (cut : Option ℕ) (rs : List SlicedView) (runs : List Run) → length runs ≡ length rs → AreFronts cut rs runs → AllZip SameRun (views runs) (runs_before cut rs)
fronts_zipped cut [] [] long are = tt
fronts_zipped cut [] (x ∷ runs) long are = absurd (omega (arith, long))
fronts_zipped cut (r ∷ rs) [] long are = absurd (omega (arith, long))
fronts_zipped cut (r ∷ rs) (x ∷ runs) long are =
    let first : IsFront cut r x = are 0 r x (omega arith) in
    (record { base = first.base; switches = first.switches; names = first.names }, fronts_zipped cut rs runs (omega (arith, long)) (λ i d y h. are (suc i) d y (omega (arith, h))))

pub fronts_entries : (cut : Option ℕ) (rs : List SlicedView) (runs : List Run) → length runs ≡ length rs → AreFronts cut rs runs → all_entries (views runs) ≡ all_entries (runs_before cut rs)
fronts_entries cut rs runs long are = all_entries-same (views runs) (runs_before cut rs) (fronts_zipped cut rs runs long are)

pub fronts_printable : (cut : Option ℕ) (rs : List SlicedView) (runs : List Run) → length runs ≡ length rs → AreFronts cut rs runs → All IsPrintable runs
fronts_printable cut [] runs long are = λ i r h. absurd (omega (arith, long, h))
fronts_printable cut (d ∷ rs) runs long are = λ i r h. (are i d r (omega (arith, long, h))).printable

names_by-is : (rs : List SlicedView) (i : ℕ) (d : SlicedView) → i < length rs → names_by (wholes rs) i ≡ (get_or rs i d).names
names_by-is [] i d h = absurd (omega (arith, h))
names_by-is (r ∷ rs) zero d h = refl
names_by-is (r ∷ rs) (suc i) d h = names_by-is rs i d (omega (arith, h))

named_front : (cut : Option ℕ) (v : SlicedView) (x r : Run) (names : ℕ → List ℕ) → IsFront cut v x → names ≡ v.names → r ≡ x → All (SameNames (name_of_task r.names.now) names) r.switches.now
named_front cut v x r names is same at = rw (same, at) is.names

pub fronts_named : (cut : Option ℕ) (rs : List SlicedView) (runs : List Run) → length runs ≡ length rs → AreFronts cut rs runs → RunsHaveNames (names_by (wholes rs)) runs
fronts_named cut [] runs long are = λ i r h is. absurd (omega (arith, long, h))
fronts_named cut (d ∷ rs) runs long are = λ i r h is.
    let inside : i < length (d ∷ rs) = omega (arith, long, h) in
    named_front cut (get_or (d ∷ rs) i d) (get_or runs i r) r (names_by (wholes (d ∷ rs)) i) (are i d r inside) (names_by-is (d ∷ rs) i d inside) is

-- one place more
pub fronts_set : {X : Type 0} (f : X → SlicedView) (cut : Option ℕ) (xs : List X) (runs : List Run) (i : ℕ) (x : X) (run : Run) → i < length runs → i < length xs
    → ((k : ℕ) (s : X) (r : Run) → k < i → IsFront cut (f (get_or xs k s)) (get_or runs k r)) → x ≡ get_or xs i x → IsFront cut (f x) run
    → (k : ℕ) (s : X) (r : Run) → k < i + 1 → IsFront cut (f (get_or xs k s)) (get_or (set runs i run) k r)
fronts_set {X = X} f cut xs runs i x run inside within so_far at is k s r h = elim (cases_lt k i) [
  | inl less ↦
      let other : k ≢ i = omega (arith, less) in
      subst (λ (q : Run). IsFront cut (f (get_or xs k s)) q) (sym (get_or-set_other runs i k run r other)) (so_far k s r less)
  | inr more ↦
      let same : i ≡ k = omega (arith, more, h) in
      let here : IsFront cut (f (get_or xs i s)) (get_or (set runs i run) i r) =
      subst (λ (q : Run). IsFront cut (f (get_or xs i s)) q) (sym (get_or-set_same runs i run r inside)) (subst (λ (y : X). IsFront cut (f y) run) (at ∙ get_or_default xs i x s within) is) in
      subst (λ (j : ℕ). IsFront cut (f (get_or xs j s)) (get_or (set runs i run) j r)) same here
]

-- by the places of what they are the runs of
pub fronts_of : {X : Type 0} (f : X → SlicedView) (cut : Option ℕ) (xs : List X) (runs : List Run) (n : ℕ) → n ≡ length xs → ((k : ℕ) (s : X) (r : Run) → k < length xs → IsFront cut (f (get_or xs k s)) (get_or runs k r)) → AreFronts cut (map f xs) (take n runs)
fronts_of f cut [] runs n is are = λ k d r h. absurd (omega (arith, h))
fronts_of f cut (x ∷ xs) runs n is are = λ k d r h.
    let inside : k < length (x ∷ xs) = omega (arith, h, length-map (x ∷ xs) f) in
    let front = are k x r inside in
    let at = get_or-map f (x ∷ xs) k x d inside in
    let taken = get_or-take n runs k r (omega (arith, inside, is)) in
    subst (λ (v : SlicedView). IsFront cut v (get_or (take n runs) k r)) (sym at) (subst (λ (q : Run). IsFront cut (f (get_or (x ∷ xs) k x)) q) (sym taken) front)

pub fronts_long : {X : Type 0} (f : X → SlicedView) (xs : List X) (runs : List Run) (n : ℕ) → n ≡ length xs → n ≤ length runs → length (take n runs) ≡ length (map f xs)
fronts_long f xs runs n is le = omega (arith, length-take-le n runs le, is, length-map xs f)

pub no_items : {X : Type 0} (xs : List X) → length xs ≡ 0 → xs ≡ []
no_items [] none = refl
no_items (x ∷ xs) none = absurd (omega (arith, none))

-- no run has no lines
pub no_lines : lines_in [] ≡ []
unfolding text_of_entries entries_in_order
no_lines = refl

pub Sends-nothing : (before : Option (List ℕ)) (waiting : List ℕ) → Sends before before (waiting ++ lines_in []) 0 waiting
Sends-nothing before waiting = record {
  gone = [];
  taken = Appends-nil before;
  count = refl;
  whole = ap (λ (xs : List ℕ). waiting ++ xs) no_lines ∙ append-nil waiting;
}

-- ---- one run after the other changes

pub wholes_set : {X : Type 0} (f : X → SlicedView) (xs : List X) (i : ℕ) (y d : X) → whole_of (f y) ≡ whole_of (f (get_or xs i d)) → wholes (map f (set xs i y)) ≡ wholes (map f xs)
wholes_set f [] i y d same = refl
wholes_set f (x ∷ xs) zero y d same = ap (λ (v : SwitchesView). v ∷ wholes (map f xs)) same
wholes_set f (x ∷ xs) (suc i) y d same = ap (λ (vs : List SwitchesView). whole_of (f x) ∷ vs) (wholes_set f xs i y d same)

pub kept_set : {X K : Type 0} (f : X → K) (xs : List X) (i : ℕ) (y d : X) → f y ≡ f (get_or xs i d) → map f (set xs i y) ≡ map f xs
kept_set f [] i y d same = refl
kept_set {K = K} f (x ∷ xs) zero y d same = ap (λ (v : K). v ∷ map f xs) same
kept_set {K = K} f (x ∷ xs) (suc i) y d same = ap (λ (vs : List K). f x ∷ vs) (kept_set f xs i y d same)

pub taken_set : {X Y : Type 0} (f : X → Y) (xs : List X) (i : ℕ) (y : X) → i < length xs → take (i + 1) (map f (set xs i y)) ≡ take i (map f xs) ++ f y ∷ []
taken_set f xs i y h = ap (take (i + 1)) (map-set f xs i y) ∙ take_more_set (map f xs) i (f y) (omega (arith, h, length-map xs f))

pub taken_all : {X Y : Type 0} (f : X → Y) (xs : List X) (i : ℕ) → length xs ≤ i → take i (map f xs) ≡ map f xs
taken_all f xs i h = take_all i (map f xs) (omega (arith, h, length-map xs f))

-- the first `i` runs have forgotten what is before the cut, the others not yet
abbrev pub HaveForgotten : Option ℕ → ℕ → List SlicedView → List SlicedView → Type 0
HaveForgotten cut i [] [] = Unit {0}
HaveForgotten cut i [] (n ∷ news) = ⊥
HaveForgotten cut i (o ∷ olds) [] = ⊥
HaveForgotten cut zero (o ∷ olds) (n ∷ news) = (n ≡ o) × HaveForgotten cut zero olds news
HaveForgotten cut (suc i) (o ∷ olds) (n ∷ news) = ((n ≡ run_from_cut cut o) × IsSplit cut o) × HaveForgotten cut i olds news

pub forgotten_none : (cut : Option ℕ) (rs : List SlicedView) → HaveForgotten cut 0 rs rs
forgotten_none cut [] = tt
forgotten_none cut (r ∷ rs) = (refl, forgotten_none cut rs)

pub forgotten_more : {X : Type 0} (f : X → SlicedView) (cut : Option ℕ) (i : ℕ) (olds xs : List X) (y d : X) → HaveForgotten cut i (map f olds) (map f xs) → i < length xs → f y ≡ run_from_cut cut (f (get_or xs i d)) → IsSplit cut (f (get_or xs i d))
    → HaveForgotten cut (suc i) (map f olds) (map f (set xs i y))
forgotten_more f cut i olds [] y d so_far h is split = absurd (omega (arith, h))
forgotten_more f cut zero [] (x ∷ xs) y d so_far h is split = absurd so_far
forgotten_more f cut (suc i) [] (x ∷ xs) y d so_far h is split = absurd so_far
forgotten_more f cut zero (o ∷ olds) (x ∷ xs) y d so_far h is split = ((is ∙ ap (run_from_cut cut) so_far.0, subst (IsSplit cut) so_far.0 split), so_far.1)
forgotten_more f cut (suc i) (o ∷ olds) (x ∷ xs) y d so_far h is split = (so_far.0, forgotten_more f cut i olds xs y d so_far.1 (omega (arith, h)) is split)

pub forgotten_left : (cut : Option ℕ) (i : ℕ) (olds news : List SlicedView) → length olds ≤ i → HaveForgotten cut i olds news → news ≡ runs_from_cut cut olds
forgotten_left cut i [] [] h all = refl
forgotten_left cut i [] (n ∷ news) h all = absurd all
forgotten_left cut i (o ∷ olds) [] h all = absurd all
forgotten_left cut zero (o ∷ olds) (n ∷ news) h all = absurd (omega (arith, h))
forgotten_left cut (suc i) (o ∷ olds) (n ∷ news) h all = ap (λ (v : SlicedView). v ∷ news) all.0.0 ∙ ap (λ (vs : List SlicedView). run_from_cut cut o ∷ vs) (forgotten_left cut i olds news (omega (arith, h)) all.1)

pub forgotten_split : (cut : Option ℕ) (i : ℕ) (olds news : List SlicedView) → length olds ≤ i → HaveForgotten cut i olds news → AllByRecursion (IsSplit cut) olds
forgotten_split cut i [] [] h all = tt
forgotten_split cut i [] (n ∷ news) h all = absurd all
forgotten_split cut i (o ∷ olds) [] h all = absurd all
forgotten_split cut zero (o ∷ olds) (n ∷ news) h all = absurd (omega (arith, h))
forgotten_split cut (suc i) (o ∷ olds) (n ∷ news) h all = (all.0.1, forgotten_split cut i olds news (omega (arith, h)) all.1)

-- runs that are the same one by one, whatever of them is at hand
pub wholes_each : {X : Type 0} (f : X → SlicedView) (xs ys : List X) → length ys ≡ length xs
    → ((i : ℕ) (d : X) → i < length xs → whole_of (f (get_or ys i d)) ≡ whole_of (f (get_or xs i d))) → wholes (map f ys) ≡ wholes (map f xs)
wholes_each f [] [] long same = refl
wholes_each f [] (y ∷ ys) long same = absurd (omega (arith, long))
wholes_each f (x ∷ xs) [] long same = absurd (omega (arith, long))
wholes_each f (x ∷ xs) (y ∷ ys) long same =
    let head : whole_of (f y) ≡ whole_of (f x) = same 0 x (omega arith) in
    let tail = wholes_each f xs ys (omega (arith, long)) (λ i d h. same (suc i) d (omega (arith, h))) in
    ap (λ (v : SwitchesView). v ∷ wholes (map f ys)) head ∙ ap (λ (vs : List SwitchesView). whole_of (f x) ∷ vs) tail

pub kept_each : {X K : Type 0} (f : X → K) (xs ys : List X) → length ys ≡ length xs
    → ((i : ℕ) (d : X) → i < length xs → f (get_or ys i d) ≡ f (get_or xs i d)) → map f ys ≡ map f xs
kept_each f [] [] long same = refl
kept_each f [] (y ∷ ys) long same = absurd (omega (arith, long))
kept_each f (x ∷ xs) [] long same = absurd (omega (arith, long))
kept_each {K = K} f (x ∷ xs) (y ∷ ys) long same =
    let head : f y ≡ f x = same 0 x (omega arith) in
    let tail = kept_each f xs ys (omega (arith, long)) (λ i d h. same (suc i) d (omega (arith, h))) in
    ap (λ (v : K). v ∷ map f ys) head ∙ ap (λ (vs : List K). f x ∷ vs) tail
