use Rattle.std.proofs.Common.{All, sym, subst, ap, take, arith, ◌∙◌}
use Rattle.std.proofs.lemmas.Grind.{common_steps}
use Rattle.std.proofs.lemmas.List.Elements.{All-take}
use Rattle.trace_compare.specs.Runs.{IsShort}
use Rattle.trace_compare.proofs.shift.push_shifts.Goals as goal

pub push_from-requires-clause-start : goal.push_from-requires-clause-start
push_from-requires-clause-start c = grind (arith, common_steps)

pub push_from-requires-clause-runs : goal.push_from-requires-clause-runs
push_from-requires-clause-runs c =
    let first = c.front.ensures ∙ ap (take 50) c.as_slice-in-Some.ensures.value in
    subst (All IsShort) (sym first) (All-take IsShort 50 c.args.task.now.recorded.items c.requires.recorded_short)

pub returns-in-None-clause-shifts : goal.returns-in-None-clause-shifts
returns-in-None-clause-shifts c = grind (arith, common_steps)

pub returns-in-Some-clause-shifts : goal.returns-in-Some-clause-shifts
returns-in-Some-clause-shifts c = grind (arith, common_steps)
