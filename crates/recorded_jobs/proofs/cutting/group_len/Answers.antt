use Rattle.std.proofs.Common.{arith}
use Rattle.recorded_jobs.proofs.Groups.{len_closed, len_open, len_all}
use Rattle.std.proofs.Common.{◌∙◌, sym}
use Rattle.recorded_jobs.proofs.cutting.group_len.Goals as goal

pub returns-then-is_closed-clause-value : goal.returns-then-is_closed-clause-value
returns-then-is_closed-clause-value c = len_closed c.args.stretches.now c.loop-i.i _ c.loop-i-test.true (sym c.is_closed.ensures ∙ c.if-is_closed.true) c.loop-i.invariant

pub loop-i-preserved : goal.loop-i-preserved
loop-i-preserved c = len_open c.args.stretches.now c.loop-i.i _ c.loop-i-test.true (sym c.is_closed.ensures ∙ c.if-is_closed.false) c.loop-i.invariant

pub returns-clause-value : goal.returns-clause-value
returns-clause-value c = len_all c.args.stretches.now c.loop-i.i c.loop-i-test.false (omega arith) c.loop-i.invariant
