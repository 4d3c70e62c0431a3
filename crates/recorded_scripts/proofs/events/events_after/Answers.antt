use Rattle.std.proofs.Common.{◌∙◌, sym, ap, ◌++◌}
use Rattle.recorded_scripts.specs.Scripts.{events_after}
use Rattle.recorded_scripts.proofs.Steps.{short_here, event_step, event_none}
use Rattle.recorded_scripts.proofs.events.events_after.Goals as goal

pub push_job-requires : goal.push_job-requires
push_job-requires c = (short_here c.loop-release.before c.args.releases.now c.loop-release.release-index _ c.loop-release-test.true c.loop-release.invariant.short).0

pub loop-release-preserved : goal.loop-release-preserved
loop-release-preserved c = record {
  found = event_step c.loop-release.before c.args.releases.now c.loop-release.release-index _ c.loop-release.events.items c.push_job.new.events.items _ c.loop-release-test.true c.in_ok-push_job.ensures c.loop-release.invariant.found;
  short = (short_here c.loop-release.before c.args.releases.now c.loop-release.release-index _ c.loop-release-test.true c.loop-release.invariant.short).1;
}

pub returns : goal.returns
returns c = event_none c.loop-release.before c.args.releases.now c.loop-release.release-index c.loop-release.events.items _ c.loop-release-test.false c.loop-release.invariant.found
