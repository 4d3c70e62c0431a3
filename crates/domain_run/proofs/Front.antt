-- Tasks that go off the list, and those that stay.
use Rattle.std.proofs.Common.{◌≡◌, ℕ, zero, suc, ◌+◌, ◌<◌, ◌≤◌, true, false, Bool, cond, not, ◌&&◌, ◌≢◌, List, [], ◌∷◌, ◌++◌, length, map, get_or, take, drop, refl, sym, ap, ◌∙◌, subst, arith, inl, inr}
use Rattle.std.specs.Prelude.{All, AllPairs, filter, is_none}
use Rattle.std.specs.List.{remove}
use Rattle.std.proofs.lemmas.Bool.{ne_eqb, cases_eq, cases_lt}
use Rattle.std.proofs.lemmas.List.{map-append, take-map, drop-map}
use Rattle.std.proofs.lemmas.List.Edits.{length-remove, get_or-remove_below}
use Rattle.domain_run.specs.declared.task.Task.{Task}
use Rattle.domain_run.specs.declared.task.Condition.{Condition}
use Rattle.domain_run.specs.declared.task.Condition.TheVariants.{Ready, Throttled, Blocked, Waiting, Leaving}
use Rattle.domain_run.specs.Calls.{is_other}
use Rattle.domain_run.specs.Conditions.{is_ready, is_leaving}
use Rattle.domain_run.specs.Parts.{is_listed}
use Rattle.domain_run.specs.private.Index.{IsListedAt, IsUnlisted}
use Rattle.due_times.specs.Timers.{AreLater}
use Rattle.domain_run.specs.private.Timers.{due_of}
use Rattle.domain_run.proofs.Due.{still_at, none_due_at}
use Rattle.domain_run.proofs.Jumping.{filter_whole}

-- where the number is not listed, all of them stay
pub others_all : (tasks : List Task) (number : ℕ) → IsUnlisted tasks number → filter (is_other number) tasks ≡ tasks
others_all tasks number absent = filter_whole (is_other number) tasks (λ k d within. ap not (ne_eqb (get_or tasks k d).number number (absent k d within)))

-- a list without one of its items is what runs before it and after it
pub removed_parts : {X : Type 0} (xs : List X) (i : ℕ) → remove xs i ≡ take i xs ++ drop (i + 1) xs
removed_parts xs i =
    let next : suc i ≡ i + 1 = omega arith in
    ap (λ n. take i xs ++ drop n xs) next

-- what is left of a list without one of its items
pub remove_map : {X Y : Type 0} (f : X → Y) (xs : List X) (i : ℕ) → remove (map f xs) i ≡ map f (remove xs i)
remove_map f xs i =
    ap (λ ys. ys ++ drop (suc i) (map f xs)) (take-map f i xs) ∙ ap (λ ys. map f (take i xs) ++ ys) (drop-map f (suc i) xs)
    ∙ sym (map-append f (take i xs) (drop (suc i) xs))

-- the task of a number is the one at its place
pub idle_at : (tasks : List Task) (number place : ℕ) → AllPairs (λ a b. a.number ≢ b.number) tasks → IsListedAt tasks number place → ((d : Task) → is_ready (get_or tasks place d).condition ≡ false) → All (λ t. t.number ≡ number → is_ready t.condition ≡ false) tasks
idle_at tasks number place numbered at idle k d within same = elim (cases_eq k place) [
  | inl here ↦ ap (λ n. is_ready (get_or tasks n d).condition) here ∙ idle d
  | inr other ↦ elim (cases_lt k place) [
    | inl before ↦ absurd (numbered k place d before at.within (same ∙ sym (at.is d)))
    | inr past ↦ absurd (numbered place k d (omega (arith, past, other)) within (at.is d ∙ sym same))
  ]
]
