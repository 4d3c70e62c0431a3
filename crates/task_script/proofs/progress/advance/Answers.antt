use Rattle.std.proofs.Common.{◌≡◌, ◌<◌, arith}
use Rattle.std.proofs.lemmas.Grind.{common_steps}
use Rattle.task_script.proofs.Stepping.{index_small, not_last, is_last}
use Rattle.task_script.proofs.progress.advance.Goals as goal

pub overflow_add-progress : goal.overflow_add-progress
overflow_add-progress c =
    let small = index_small c.args.script.now c.args.progress.now c.phases.ensures.within c.requires.stands in
    omega (arith, small)

pub returns-then-laps-eq0 : goal.returns-then-laps-eq0
returns-then-laps-eq0 c =
    let laps = c.laps_here-laps.result in
    let none : laps ≡ 0 = grind (arith, common_steps) in
    not_last c.args.script.now c.args.progress.now laps c.phases.ensures.within c.requires.stands c.requires.more c.laps_here-laps.ensures none

pub next_lap-requires-clause-last : goal.next_lap-requires-clause-last
next_lap-requires-clause-last c =
    let laps = c.laps_here-laps.result in
    let some : 0 < laps = grind (arith, common_steps) in
    is_last c.args.script.now c.args.progress.now laps c.requires.stands c.laps_here-laps.ensures some
