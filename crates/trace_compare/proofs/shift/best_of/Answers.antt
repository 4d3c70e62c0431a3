use Rattle.std.specs.Prelude.{sum_by}
use Rattle.std.proofs.Common.{ℕ, get_or, refl}
use Rattle.trace_compare.specs.declared.clock.ClockShift.{ClockShift}
use Rattle.trace_compare.specs.declared.shift.Choice.{Choice}
use Rattle.trace_compare.specs.Clocks.{no_shift}
use Rattle.trace_compare.specs.Shift.{task_score}
use Rattle.trace_compare.proofs.Choosing.{better_step, better_small, best_in_all}
use Rattle.trace_compare.proofs.shift.best_of.Goals as goal

pub returns-clause-best : goal.returns-clause-best
returns-clause-best c = best_in_all (λ s. sum_by (task_score c.args.within c.args.share s) c.args.tasks.now) c.args.shifts.now c.loop-shift.shift-index c.loop-shift.best c.loop-shift-test.false c.loop-shift.invariant.best

pub loop-shift-preserved : goal.loop-shift-preserved
loop-shift-preserved c =
    let v = c.loop-shift.invariant in
    let xs = c.args.shifts.now in
    let i = c.loop-shift.shift-index in
    let f : ClockShift → ℕ = λ s. sum_by (task_score c.args.within c.args.share s) c.args.tasks.now in
    let d = no_shift in
    let next : Choice = record { shift = get_or xs i d; score = f (get_or xs i d) } in
    record {
      best = better_step f xs i d c.loop-shift.best next c.next_best-best.result c.loop-shift-test.true v.best refl refl c.next_best-best.ensures;
      small = better_small c.loop-shift.best next c.next_best-best.result c.next_best-best.ensures v.small (c.requires.small i d c.loop-shift-test.true);
    }

pub returns-clause-small : goal.returns-clause-small
returns-clause-small c = c.loop-shift.invariant.small
