use Rattle.std.proofs.Common.{◌∙◌, ap}
use Rattle.recorded_table.specs.Table.{shown_time}
use Rattle.recorded_table.proofs.Rows.{distance_more, distance_none}
use Rattle.recorded_table.proofs.table.distances_after.Goals as goal

pub loop-release-preserved : goal.loop-release-preserved
loop-release-preserved c = distance_more c.loop-release.before c.args.others.now c.loop-release.release-index _ c.shown_time.result c.loop-release.distances.items c.push.new.self.items _ c.loop-release-test.true (c.shown_time.ensures ∙ ap shown_time (c.from.ensures ∙ c.saturating_sub.ensures)) c.in_ok-push.ensures.items c.loop-release.invariant

pub returns : goal.returns
returns c = distance_none c.loop-release.before c.args.others.now c.loop-release.release-index c.loop-release.distances.items _ c.loop-release-test.false c.loop-release.invariant
