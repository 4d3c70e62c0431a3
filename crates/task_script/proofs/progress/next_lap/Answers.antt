use Rattle.std.proofs.Common.{◌+◌, ◌<◌, ◌≤◌, length, arith}
use Rattle.std.proofs.lemmas.Grind.{common_steps}
use Rattle.task_script.proofs.Rounds.{lap_fits, lap_behind, phase_behind, round_behind, rounds_left}
use Rattle.task_script.proofs.Stepping.{index_small}
use Rattle.task_script.proofs.progress.next_lap.Goals as goal

pub overflow_add-progress : goal.overflow_add-progress
overflow_add-progress c = lap_fits c.args.script.now c.args.progress.now c.phases-phases.ensures.within c.requires.stands

pub returns-then-progress-laps : goal.returns-then-progress-laps
returns-then-progress-laps c =
    let p = c.args.progress.now in
    let further : p.lap + 1 < c.args.laps = grind (arith, common_steps) in
    lap_behind c.args.script.now p c.args.laps c.phases-phases.ensures.within c.requires.stands c.requires.more c.requires.last further

pub returns-then-progress-phases : goal.returns-then-progress-phases
returns-then-progress-phases c =
    let p = c.args.progress.now in
    let s = c.args.script.now in
    let done : c.args.laps ≤ p.lap + 1 = grind (arith, common_steps) in
    let further : p.phase + 1 < length s.phases = grind (arith, common_steps) in
    phase_behind s p c.args.laps c.phases-phases.ensures.within c.requires.stands c.requires.more c.requires.last done further

pub next_round-progress-requires : goal.next_round-progress-requires
next_round-progress-requires c =
    rw c.rounds.ensures (rounds_left c.args.script.now c.args.progress.now c.phases-phases.ensures.within c.requires.more)

pub returns : goal.returns
returns c =
    let p = c.args.progress.now in
    let s = c.args.script.now in
    let done : c.args.laps ≤ p.lap + 1 = grind (arith, common_steps) in
    let end : length s.phases ≤ p.phase + 1 = grind (arith, common_steps) in
    rw (c.next_round-progress.ensures, c.rounds.ensures) (round_behind s p c.args.laps c.phases-phases.ensures.within c.requires.stands c.requires.more c.requires.last done end)

pub overflow_add-events : goal.overflow_add-events
overflow_add-events c =
    let small = index_small c.args.script.now c.args.progress.now c.phases-phases.ensures.within c.requires.stands in
    omega (arith, small)

pub overflow_add-progress-then-progress-phases : goal.overflow_add-progress-then-progress-phases
overflow_add-progress-then-progress-phases c =
    let small = index_small c.args.script.now c.args.progress.now c.phases-phases.ensures.within c.requires.stands in
    omega (arith, small)
