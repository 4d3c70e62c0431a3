-- The figures of throttles, of what a domain logs.
use Rattle.std.proofs.Common.{◌≡◌, ℕ, ◌+◌, false, cond, List, get_or, sym, subst}
use Rattle.std.specs.Prelude.{All}
use Rattle.std.proofs.lemmas.List.Elements.{All-map}
use Rattle.domain_run.specs.declared.happened.Happened.{Happened}
use Rattle.run_figures.specs.declared.figures.TaskFigures.{TaskFigures}
use Rattle.run_figures.specs.Jobs.{of_task}
use Rattle.run_figures.specs.Runs.{RunView}
use Rattle.run_figures.specs.Throttling.{throttled_of}
use Rattle.run_figures.specs.Balance.{replenished_of, is_left_throttled}
use Rattle.run_figures.specs.Figures.{figures_of, task_figures}
use Rattle.run_figures.specs.Laws.{IsLoggedOfCalls, ThrottlesBalance}
use Rattle.run_figures.proofs.RunsInTurn.{run_counted}

own_counted : (n : ℕ) (happened : List Happened) → IsLoggedOfCalls happened
    → throttled_of (of_task n happened) ≡ replenished_of (of_task n happened) + cond (is_left_throttled false (of_task n happened)) 1 0
own_counted n happened (cpus, limit, calls, same) =
    subst (λ (hs : List Happened). throttled_of (of_task n hs) ≡ replenished_of (of_task n hs) + cond (is_left_throttled false (of_task n hs)) 1 0) (sym same) (run_counted cpus limit calls n)

pub all_balanced : (run : RunView) (items : List TaskFigures) → items ≡ task_figures run → IsLoggedOfCalls run.happened → All (ThrottlesBalance run.happened) items
all_balanced run items is logged =
    subst (All (ThrottlesBalance run.happened)) (sym is)
    (All-map (ThrottlesBalance run.happened) (figures_of run) run.tasks (λ k e h. own_counted (get_or run.tasks k e).number run.happened logged))
