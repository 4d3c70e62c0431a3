use Rattle.std.proofs.Common.{◌∙◌, sym}
use Rattle.recorded_scripts.proofs.Steps.{short_later, short_not, short_none}
use Rattle.recorded_scripts.proofs.events.are_short.Goals as goal

pub returns-then-not-is_short : goal.returns-then-not-is_short
returns-then-not-is_short c = sym (c.loop-release.invariant ∙ short_not c.loop-release.before c.args.releases.now c.loop-release.release-index _ c.loop-release-test.true (sym c.is_short.ensures ∙ c.if-not-is_short.true))

pub loop-release-preserved : goal.loop-release-preserved
loop-release-preserved c = c.loop-release.invariant ∙ short_later c.loop-release.before c.args.releases.now c.loop-release.release-index _ c.loop-release-test.true (sym c.is_short.ensures ∙ c.if-not-is_short.false)

pub returns : goal.returns
returns c = sym (c.loop-release.invariant ∙ short_none c.loop-release.before c.args.releases.now c.loop-release.release-index c.loop-release-test.false)
