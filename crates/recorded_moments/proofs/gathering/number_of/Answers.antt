use Rattle.std.proofs.Common.{◌∙◌, sym}
use Rattle.recorded_moments.proofs.Numbers.{number_here, number_later, number_none}
use Rattle.recorded_moments.proofs.gathering.number_of.Goals as goal

pub returns-then-is_thread : goal.returns-then-is_thread
returns-then-is_thread c = sym (c.loop-i.invariant ∙ number_here c.args.tasks.now c.loop-i.i _ c.args.name.now c.args.pid c.loop-i-test.true (sym c.is_thread.ensures ∙ c.if-is_thread.true))

pub loop-i-preserved : goal.loop-i-preserved
loop-i-preserved c = c.loop-i.invariant ∙ number_later c.args.tasks.now c.loop-i.i _ c.args.name.now c.args.pid c.loop-i-test.true (sym c.is_thread.ensures ∙ c.if-is_thread.false)

pub returns : goal.returns
returns c = sym (c.loop-i.invariant ∙ number_none c.args.tasks.now c.loop-i.i c.args.name.now c.args.pid c.loop-i-test.false)
