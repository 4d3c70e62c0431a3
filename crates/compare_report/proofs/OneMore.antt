-- What is told of one more task.
use Rattle.std.proofs.Common.{◌≡◌, ℕ, ◌+◌, ◌-◌, ◌<◌, ⊎_elim, List, [], ◌∷◌, ◌++◌, length, get_or, refl, sym, ap, ◌∙◌, subst, arith, Result, Ok, Err}
use Rattle.std.specs.Prelude.{IfOk}
use Rattle.std.proofs.lemmas.Bool.{cases_lt}
use Rattle.std.proofs.lemmas.List.{get_or_append_left, get_or-append_right, get_or_default, length-append}
use Rattle.trace_compare.specs.declared.clock.ClockShift.{ClockShift}
use Rattle.trace_compare.specs.declared.task.TaskRuns.{TaskRuns}
use Rattle.trace_compare.specs.declared.pairs.Matching.{Matching}
use Rattle.compare_report.specs.declared.finding.Finding.{Finding}
use Rattle.compare_report.specs.Findings.{IsFinding, AreFindings}

last_is : (fs : List Finding) (f : Finding) (j : ℕ) (d : Finding) → j ≡ length fs → get_or (fs ++ f ∷ []) j d ≡ f
last_is fs f j d e =
    get_or-append_right fs (f ∷ []) (length fs) j d refl (omega (arith, e))
    ∙ ap (λ (n : ℕ). get_or (f ∷ []) n d) (let z : j - length fs ≡ 0 = omega (arith, e) in z)

pub one_more : (shift : ClockShift) (from until : ℕ) (names : List (List ℕ)) (tasks : List TaskRuns) (matchings : List Matching) (n : ℕ) (before after : List Finding) (f : Finding) → AreFindings shift from until names tasks matchings n before
    → ((x : List ℕ) (t : TaskRuns) (m : Matching) → IsFinding shift from until (get_or names n x) (get_or tasks n t) (get_or matchings n m) f)
    → after ≡ before ++ f ∷ [] → AreFindings shift from until names tasks matchings (n + 1) after
one_more shift from until names tasks matchings n before after f was here same =
    let len = length-append before (f ∷ []) in
    let told : (j : ℕ) (x : List ℕ) (t : TaskRuns) (m : Matching) → Finding → Type 0 = λ j x t m g. IsFinding shift from until (get_or names j x) (get_or tasks j t) (get_or matchings j m) g in
    subst (AreFindings shift from until names tasks matchings (n + 1)) (sym same) (record {
      as_many = omega (arith, was.as_many, len);
      each = λ j x t m d lt. ⊎_elim
          (λ less. subst (told j x t m) (sym (get_or_append_left before (f ∷ []) d j (omega (arith, less, was.as_many)))) (was.each j x t m d less))
          (λ more. let at : n ≡ j = omega (arith, more, lt) in
          subst (told j x t m) (sym (last_is before f j d (omega (arith, at, was.as_many)))) (subst (λ (k : ℕ). told k x t m f) at (here x t m)))
          (cases_lt j n);
    })

-- what is told of a name, a task and a matching is told of those that stand at a place
pub at_place : {E : Type 0} (shift : ClockShift) (from until : ℕ) (names : List (List ℕ)) (tasks : List TaskRuns) (matchings : List Matching) (i : ℕ) (name : List ℕ) (task : TaskRuns) (m : Matching) (r : Result Finding E)
    → ((d : List ℕ) → name ≡ get_or names i d) → task ≡ get_or tasks i task → i < length tasks → m ≡ get_or matchings i m → i < length matchings
    → IfOk r (IsFinding shift from until name task m)
    → IfOk r (λ f. (x : List ℕ) (t : TaskRuns) (k : Matching) → IsFinding shift from until (get_or names i x) (get_or tasks i t) (get_or matchings i k) f)
at_place shift from until names tasks matchings i name task m (Err e) called is there fits inside h = tt
at_place shift from until names tasks matchings i name task m (Ok f) called is there fits inside h = λ x t k.
    let same_task : task ≡ get_or tasks i t = is ∙ get_or_default tasks i task t there in
    let same_match : m ≡ get_or matchings i k = fits ∙ get_or_default matchings i m k inside in
    subst (λ (y : Matching). IsFinding shift from until (get_or names i x) (get_or tasks i t) y f) same_match
    (subst (λ (y : TaskRuns). IsFinding shift from until (get_or names i x) y m f) same_task
    (subst (λ (y : List ℕ). IsFinding shift from until y task m f) (called x) h))
