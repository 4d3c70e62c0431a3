use Rattle.std.proofs.Common.{All, sym, subst, arith}
use Rattle.std.proofs.lemmas.Grind.{common_steps}
use Rattle.std.proofs.lemmas.List.Elements.{All-take}
use Rattle.trace_compare.specs.Tasks.{AreSoundRuns}
use Rattle.trace_compare.proofs.shift.find_shift.Goals as goal

pub all_shifts-requires : goal.all_shifts-requires
all_shifts-requires c = subst (All AreSoundRuns) (sym c.front_tasks-looked_at.ensures.value) (All-take AreSoundRuns 256 c.args.tasks.now c.requires.tasks)

pub best_of-requires-clause-tasks : goal.best_of-requires-clause-tasks
best_of-requires-clause-tasks c = subst (All AreSoundRuns) (sym c.front_tasks-looked_at.ensures.value) (All-take AreSoundRuns 256 c.args.tasks.now c.requires.tasks)

pub returns-clause-shift : goal.returns-clause-shift
returns-clause-shift c = grind (arith, common_steps)

pub returns-then-is_empty-clause-shift : goal.returns-then-is_empty-clause-shift
returns-then-is_empty-clause-shift c = grind (arith, common_steps)

pub best_of-requires-clause-share : goal.best_of-requires-clause-share
best_of-requires-clause-share c = grind (arith, common_steps)

pub best_of-requires-clause-some : goal.best_of-requires-clause-some
best_of-requires-clause-some c = grind (arith, common_steps)
