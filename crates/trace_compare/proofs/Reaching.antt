-- The model's time is below 2^61.
use Rattle.std.proofs.Common.{ℕ, ◌<◌, ◌≤◌, ◌^◌, List, [], ◌∷◌, sym, subst, arith, min, max}
use Rattle.std.specs.Prelude.{fold, All}
use Rattle.std.specs.List.{AllByRecursion}
use Rattle.std.proofs.lemmas.Grind.{fold-append}
use Rattle.std.proofs.lemmas.List.Elements.{recursion_from_All}
use Rattle.trace_compare.specs.declared.run.Run.{Run}
use Rattle.trace_compare.specs.declared.task.TaskRuns.{TaskRuns}
use Rattle.trace_compare.specs.Runs.{IsShort}
use Rattle.trace_compare.specs.Tasks.{AreSoundRuns}
use Rattle.trace_compare.specs.Clocks.{time_limit}
use Rattle.trace_compare.specs.Differences.{all_runs, first_start, last_end}

no_later : (time : ℕ) (rs : List Run) → fold (λ at r. min at r.start) time rs ≤ time
no_later time [] = omega arith
no_later time (r ∷ rs) = let rest = no_later (min time r.start) rs in omega (arith, rest)

pub first_small : (tasks : List TaskRuns) → first_start tasks ≤ time_limit
first_small tasks = no_later time_limit (all_runs tasks)

ends_small : (time : ℕ) (rs : List Run) → time < 2 ^ 61 → AllByRecursion IsShort rs → fold (λ at r. max at r.«end») time rs < 2 ^ 61
ends_small time [] h short = h
ends_small time (r ∷ rs) h short = ends_small (max time r.«end») rs (let small = short.0.small in omega (arith, h, small)) short.1

all_small : (time : ℕ) (tasks : List TaskRuns) → time < 2 ^ 61 → AllByRecursion AreSoundRuns tasks → fold (λ at r. max at r.«end») time (all_runs tasks) < 2 ^ 61
all_small time [] h sound = h
all_small time (t ∷ ts) h sound =
    let next = ends_small time t.model.items h (recursion_from_All IsShort t.model.items sound.0.model_short) in
    subst (λ (n : ℕ). n < 2 ^ 61) (sym (fold-append (λ (at : ℕ) (r : Run). max at r.«end») time t.model.items (all_runs ts)))
    (all_small (fold (λ at r. max at r.«end») time t.model.items) ts next sound.1)

pub last_small : (tasks : List TaskRuns) → All AreSoundRuns tasks → last_end tasks < 2 ^ 61
last_small tasks sound = all_small 0 tasks (omega arith) (recursion_from_All AreSoundRuns tasks sound)
