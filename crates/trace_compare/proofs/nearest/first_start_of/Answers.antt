use Rattle.std.proofs.Common.{ℕ, ◌≤◌, ◌^◌, sym, subst, take}
use Rattle.trace_compare.proofs.Reaching.{first_small}
use Rattle.trace_compare.proofs.nearest.first_start_of.Goals as goal

pub returns-clause-small : goal.returns-clause-small
returns-clause-small c = subst (λ (t : ℕ). t ≤ 2 ^ 61) (sym c.loop-task.invariant) (first_small (take c.loop-task.task-index c.args.tasks.now))
