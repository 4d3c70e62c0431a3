-- The index of numbers, built from the first on.
use Rattle.std.proofs.Common.{◌≡◌, ◌≢◌, ℕ, ◌+◌, ◌-◌, ◌<◌, ◌≤◌, ⊎_elim, List, [], ◌∷◌, length, get_or, set, map, replicate, sym, ap, ◌∙◌, arith, subst, length-set, All}
use Rattle.std.specs.Prelude.{AllPairs}
use Rattle.std.proofs.lemmas.Bool.{cases_eq, cases_lt}
use Rattle.std.proofs.lemmas.List.{get_or-set_same, get_or-set_other, get_or-replicate, length-replicate, get_or_default, get_or-map, length-map}
use Rattle.std.proofs.lemmas.List.Elements.{All-map, All-same}
use Rattle.run_figures.specs.declared.run.Admitted.{Admitted}
use Rattle.run_figures.specs.Runs.{AreTasks}
use Rattle.run_figures.specs.Places.{IsIndex, AreIndexed, IsAt, IsAbsent}

pub nothing_seen : (numbers : List ℕ) → IsIndex numbers 0 (replicate 65536 0)
nothing_seen numbers = record {
  wide = length-replicate {A = ℕ} 65536 0;
  short = λ n h. omega (arith, get_or-replicate {A = ℕ} 65536 n 0 0 h);
  found = λ n h some. absurd (some (get_or-replicate {A = ℕ} 65536 n 0 0 h));
  listed = λ k h. absurd (omega (arith, h));
}

pub one_seen : (numbers : List ℕ) (seen : ℕ) (codes : List ℕ) (m : ℕ) → IsIndex numbers seen codes → m ≡ get_or numbers seen 0 → m < 65536 → IsIndex numbers (seen + 1) (set codes m (seen + 1))
one_seen numbers seen codes m before is small =
    let room : m < length codes = omega (arith, before.wide) in
    let here : get_or (set codes m (seen + 1)) m 0 ≡ seen + 1 = get_or-set_same codes m (seen + 1) 0 room in
    let there : (n : ℕ) → n ≢ m → get_or (set codes m (seen + 1)) n 0 ≡ get_or codes n 0 = λ n other. get_or-set_other codes m n (seen + 1) 0 other in
    record {
      wide = length-set codes m (seen + 1) ∙ before.wide;
      short = λ n h. ⊎_elim
          (λ (e : n ≡ m). omega (arith, ap (λ k. get_or (set codes m (seen + 1)) k 0) e ∙ here))
          (λ (other : n ≢ m). omega (arith, there n other, before.short n h))
          (cases_eq n m);
      found = λ n h some. ⊎_elim
          (λ (e : n ≡ m).
          let code : get_or (set codes m (seen + 1)) n 0 - 1 ≡ seen = omega (arith, ap (λ k. get_or (set codes m (seen + 1)) k 0) e ∙ here) in
          ap (λ k. get_or numbers k 0) code ∙ sym is ∙ sym e)
          (λ (other : n ≢ m).
          let same = there n other in
          ap (λ k. get_or numbers (k - 1) 0) same ∙ before.found n h (λ none. some (same ∙ none)))
          (cases_eq n m);
      listed = λ k h none. ⊎_elim
          (λ (e : get_or numbers k 0 ≡ m).
          let code : get_or (set codes m (seen + 1)) (get_or numbers k 0) 0 ≡ seen + 1 = ap (λ n. get_or (set codes m (seen + 1)) n 0) e ∙ here in
          absurd (omega (arith, code, none)))
          (λ (other : get_or numbers k 0 ≢ m).
          let same = there (get_or numbers k 0) other in
          ⊎_elim
          (λ (lt : k < seen). before.listed k lt (sym same ∙ none))
          (λ (le : seen ≤ k). other (ap (λ j. get_or numbers j 0) (omega (arith, h, le)) ∙ sym is))
          (cases_lt k seen))
          (cases_eq (get_or numbers k 0) m);
    }

-- what a code says of its number
pub code_at : (numbers codes : List ℕ) (n code : ℕ) → AreIndexed numbers codes → n < 65536 → code ≡ get_or codes n 0 → code ≢ 0 → IsAt numbers n (code - 1)
code_at numbers codes n code indexed small is some =
    let short = indexed.index.short n small in
    let inside : code - 1 < length numbers = omega (arith, short, is, some) in
    let here : get_or numbers (code - 1) 0 ≡ n = ap (λ (k : ℕ). get_or numbers (k - 1) 0) is ∙ indexed.index.found n small (λ none. some (is ∙ none)) in
    record {
      within = inside;
      is = λ d. get_or_default numbers (code - 1) d 0 inside ∙ here;
    }

pub no_code : (numbers codes : List ℕ) (n : ℕ) → AreIndexed numbers codes → get_or codes n 0 ≡ 0 → IsAbsent numbers n
no_code numbers codes n indexed none k d h e =
    indexed.index.listed k h (ap (λ (m : ℕ). get_or codes m 0) (get_or_default numbers k 0 d h ∙ e) ∙ none)

pub beyond : (numbers codes : List ℕ) (n : ℕ) → AreIndexed numbers codes → 65536 ≤ n → IsAbsent numbers n
beyond numbers codes n indexed above k d h e = omega (arith, indexed.small k d h, e, above)

-- the numbers of tasks
pub numbers_small : (tasks : List Admitted) (numbers : List ℕ) → numbers ≡ map (λ t. t.number) tasks → AreTasks tasks → All (λ n. n < 65536) numbers
numbers_small tasks numbers is h = All-same (λ n. n < 65536) numbers (map (λ t. t.number) tasks) is (All-map (λ n. n < 65536) (λ (t : Admitted). t.number) tasks h.small)

pub numbers_apart : (tasks : List Admitted) → AreTasks tasks → AllPairs (λ a b. a ≢ b) (map (λ t. t.number) tasks)
numbers_apart tasks h i j d less within same =
    let number : Admitted → ℕ = λ t. t.number in
    let inside : j < length tasks = omega (arith, within, length-map tasks number) in
    let one = some_task tasks inside in
    let first = get_or-map number tasks i one d (omega (arith, less, inside)) in
    let second = get_or-map number tasks j one d inside in
    h.apart i j one less inside (sym first ∙ same ∙ second)
  where
    some_task : {k : ℕ} (ts : List Admitted) → k < length ts → Admitted
    some_task [] l = absurd (omega (arith, l))
    some_task (t ∷ ts) l = t

pub all_indexed : (tasks : List Admitted) (numbers codes : List ℕ) → numbers ≡ map (λ t. t.number) tasks → AreTasks tasks → IsIndex numbers (length numbers) codes → AreIndexed numbers codes
all_indexed tasks numbers codes is h index = record {
  index = index;
  small = numbers_small tasks numbers is h;
  apart = subst (λ (ns : List ℕ). AllPairs (λ a b. a ≢ b) ns) (sym is) (numbers_apart tasks h);
}
