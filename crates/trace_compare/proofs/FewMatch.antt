-- No more runs match than there are.
use Rattle.std.proofs.Common.{◌≡◌, ℕ, ◌+◌, ◌*◌, ◌<◌, ◌≤◌, suc, Bool, List, [], ◌∷◌, length, take, drop, get_or, Option, Some, None, arith}
use Rattle.std.specs.Prelude.{sum_by}
use Rattle.std.specs.Option.{option_map_or}
use Rattle.std.proofs.lemmas.Grind.{common_steps}
use Rattle.std.proofs.lemmas.List.{length-take, length-drop}
use Rattle.std.proofs.lemmas.List.Sums.{sum_by-le-sum_by, sum_by-take-drop, sum_by_more}
use Rattle.trace_compare.specs.declared.clock.ClockShift.{ClockShift}
use Rattle.trace_compare.specs.declared.run.Run.{Run}
use Rattle.trace_compare.specs.declared.task.TaskRuns.{TaskRuns}
use Rattle.trace_compare.specs.Pairs.{fits, Split, split_at, partners, count_matched}
use Rattle.trace_compare.specs.Shift.{task_score}
use Rattle.trace_compare.specs.private.Choices.{most_of}

one_and_rest : (fit : Run → Run → Bool) (ms rs : List Run) (o : Option Split) → ((xs : List Run) → count_matched (partners fit ms xs) ≤ length ms) → count_matched (option_map_or (λ s. Some s.found ∷ partners fit ms s.after) o (None ∷ partners fit ms rs)) ≤ suc (length ms)
one_and_rest fit ms rs (Some s) few = omega (arith, few s.after)
one_and_rest fit ms rs None few = omega (arith, few rs)

pub few_match : (fit : Run → Run → Bool) (ms rs : List Run) → count_matched (partners fit ms rs) ≤ length ms
unfolding partners
few_match fit [] rs = omega arith
few_match fit (m ∷ ms) rs = one_and_rest fit ms rs (split_at (fit m) rs) (λ xs. few_match fit ms xs)

-- where the first i runs are behind, and the j first recorded ones
pub rest_match : (fit : Run → Run → Bool) (ms rs : List Run) (i j : ℕ) → i ≤ length ms → count_matched (partners fit (drop i ms) (drop j rs)) + i ≤ length ms
rest_match fit ms rs i j within = omega (arith, few_match fit (drop i ms) (drop j rs), length-drop i ms, within)

pub score_most : (within share : ℕ) (shift : ClockShift) (t : TaskRuns) → task_score within share shift t ≤ most_of share t
score_most within share shift t =
    let few = few_match (fits within shift) (take share t.model.items) (take (4 * share + 50) t.recorded.items) in
    grind (arith, common_steps, few, length-take share t.model.items)

-- the score of all tasks, where those before the i-th have this total, the i-th has less than is needed of it, and the others have at most `left`
module _ (within share : ℕ) (shift : ClockShift) (tasks : List TaskRuns) where
  abbrev score : TaskRuns → ℕ
  score t = task_score within share shift t

  rest_most : (i : ℕ) → sum_by score (drop i tasks) ≤ sum_by (most_of share) (drop i tasks)
  rest_most i = sum_by-le-sum_by score (most_of share) (drop i tasks) (λ t. score_most within share shift t)

  pub too_few : (i total left needed : ℕ) (d : TaskRuns) → i < length tasks → total ≡ sum_by score (take i tasks) → left + sum_by (most_of share) (take (i + 1) tasks) ≡ sum_by (most_of share) tasks → score (get_or tasks i d) + (total + left) < needed → sum_by score tasks < needed
  too_few i total left needed d lt told rest less =
      let a = sum_by_more score tasks i d lt in
      let b = sum_by-take-drop score tasks (i + 1) in
      let m = sum_by-take-drop (most_of share) tasks (i + 1) in
      let r = rest_most (i + 1) in
      omega (arith, a, b, m, r, told, rest, less)
