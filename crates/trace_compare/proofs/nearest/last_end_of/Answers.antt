use Rattle.std.proofs.Common.{ℕ, ◌<◌, ◌^◌, sym, subst, take}
use Rattle.std.proofs.lemmas.List.Elements.{All-take}
use Rattle.trace_compare.specs.Tasks.{AreSoundRuns}
use Rattle.trace_compare.proofs.Reaching.{last_small}
use Rattle.trace_compare.proofs.nearest.last_end_of.Goals as goal

pub returns-clause-small : goal.returns-clause-small
returns-clause-small c = λ sound.
    let tasks = c.args.tasks.now in
    let i = c.loop-task.task-index in
    subst (λ (t : ℕ). t < 2 ^ 61) (sym c.loop-task.invariant) (last_small (take i tasks) (All-take AreSoundRuns i tasks sound))
