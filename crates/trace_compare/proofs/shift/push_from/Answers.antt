use Rattle.trace_compare.proofs.Choosing.{map_told, all_pushed}
use Rattle.trace_compare.proofs.Walking.{no_run}
use Rattle.std.proofs.Common.{List, ◌++◌, ◌∷◌, [], map, append-nil, ◌∙◌, sym, ap}
use Rattle.std.proofs.lemmas.List.{take_all}
use Rattle.trace_compare.specs.declared.run.Run.{Run}
use Rattle.trace_compare.specs.Clocks.{shift_between, IsSmallShift}
use Rattle.trace_compare.proofs.shift.push_from.Goals as goal

pub loop-run-preserved : goal.loop-run-preserved
loop-run-preserved c = record {
  told = map_told (λ r. shift_between c.args.start r.start) c.args.shifts.now.items c.loop-run.shifts.items c.push.new.self.items c.args.runs.now c.loop-run.run-index no_run c.loop-run-test.true c.loop-run.invariant.told
      (c.in_ok-push.ensures.items ∙ ap (λ x. c.loop-run.shifts.items ++ x ∷ []) c.shift_to.ensures.value);
  small = λ h. all_pushed IsSmallShift c.loop-run.shifts.items c.push.new.self.items c.shift_to.result (c.loop-run.invariant.small h) c.shift_to.ensures.small c.in_ok-push.ensures.items;
}

pub loop-run-init : goal.loop-run-init
loop-run-init c = record { told = sym (append-nil c.args.shifts.now.items); small = λ h. h }

pub returns-clause-shifts : goal.returns-clause-shifts
returns-clause-shifts c =
    c.loop-run.invariant.told ∙ ap (λ (rs : List Run). c.args.shifts.now.items ++ map (λ (r : Run). shift_between c.args.start r.start) rs) (take_all c.loop-run.run-index c.args.runs.now c.loop-run-test.false)

pub returns-clause-small : goal.returns-clause-small
returns-clause-small c = c.loop-run.invariant.small
