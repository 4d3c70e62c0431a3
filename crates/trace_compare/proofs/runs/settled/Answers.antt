use Rattle.std.proofs.Common.{◌+◌, ◌++◌, ◌∙◌, drop, sym, ap}
use Rattle.std.proofs.lemmas.List.{drop_more}
use Rattle.trace_compare.specs.Runs.{joined_on, long_runs}
use Rattle.trace_compare.proofs.Joining.{none_runs, none_turn, none_short, short_first, short_later, all_told, all_in_turn}
use Rattle.trace_compare.proofs.runs.settled.Goals as goal

pub returns-in-None-clause-runs : goal.returns-in-None-clause-runs
returns-in-None-clause-runs c = none_runs c.args.noise c.args.raw.now c.new-runs.result.items c.in-None.ensures.cases c.new-runs.ensures.items

pub returns-in-None-clause-turn : goal.returns-in-None-clause-turn
returns-in-None-clause-turn c = none_turn c.new-runs.result.items c.new-runs.ensures.items

pub take_run-requires-clause-run : goal.take_run-requires-clause-run
take_run-requires-clause-run c = short_later c.args.raw.now c.in-Some.parts.0.now c.in-Some.parts.1.now c.loop-run.run-index _ c.in-Some.ensures.cases.0 c.requires.small c.loop-run-test.true

pub returns-clause-runs : goal.returns-clause-runs
returns-clause-runs c =
    all_told c.args.noise c.args.raw.now c.loop-run.runs.items c.push_kept.new.runs.items c.loop-run.current c.in-Some.parts.0.now c.in-Some.parts.1.now c.loop-run.run-index c.in-Some.ensures.cases.0 c.loop-run-test.false c.in_ok-push_kept.ensures.kept c.loop-run.invariant.told

pub returns-clause-turn : goal.returns-clause-turn
returns-clause-turn c =
    all_in_turn c.args.noise c.args.raw.now c.push_kept.new.runs.items c.in-Some.parts.0.now c.in-Some.parts.1.now c.in-Some.ensures.cases.0 c.requires.small
    (all_told c.args.noise c.args.raw.now c.loop-run.runs.items c.push_kept.new.runs.items c.loop-run.current c.in-Some.parts.0.now c.in-Some.parts.1.now c.loop-run.run-index c.in-Some.ensures.cases.0 c.loop-run-test.false c.in_ok-push_kept.ensures.kept c.loop-run.invariant.told)

pub loop-run-init : goal.loop-run-init
loop-run-init c =
    let first = c.in-Some.parts.0.now in
    let later = c.in-Some.parts.1.now in
    record {
      told = ap (λ rs. rs ++ long_runs c.args.noise (joined_on c.args.noise first later)) c.new-runs.ensures.items;
      current = short_first c.args.raw.now first later c.in-Some.ensures.cases.0 c.requires.small;
      runs = none_short c.new-runs.result.items c.new-runs.ensures.items;
    }

pub loop-run-preserved : goal.loop-run-preserved
loop-run-preserved c =
    let later = c.in-Some.parts.1.now in
    let i = c.loop-run.run-index in
    let v = c.loop-run.invariant in
    record {
      told = c.in_ok-current.ensures.told (drop (i + 1) later) ∙ ap (λ rs. c.loop-run.runs.items ++ long_runs c.args.noise (joined_on c.args.noise c.loop-run.current rs)) (sym (drop_more later i _ c.loop-run-test.true)) ∙ v.told;
      current = c.in_ok-current.ensures.next;
      runs = c.take_run.ensures.small v.runs;
    }
