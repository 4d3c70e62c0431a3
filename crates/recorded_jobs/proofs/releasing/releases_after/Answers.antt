use Rattle.recorded_jobs.proofs.Released.{next_release, all_released}
use Rattle.recorded_jobs.proofs.releasing.releases_after.Goals as goal
use Rattle.std.proofs.Common.{◌∙◌, ap}
use Rattle.recorded_jobs.specs.Releases.{release_by}

pub loop-job-preserved : goal.loop-job-preserved
loop-job-preserved c =
    next_release c.loop-job.after c.unwrap_or-after.result c.args.wakes.now c.args.jobs.now c.loop-job.job-index _ c.release_by.result c.loop-job.releases.items c.push.new.self.items _ c.loop-job-test.true (c.release_by.ensures ∙ ap (release_by _) c.latest_between.ensures) c.unwrap_or-after.ensures c.in_ok-push.ensures.items c.loop-job.invariant

pub returns : goal.returns
returns c = all_released c.loop-job.after c.args.wakes.now c.args.jobs.now c.loop-job.job-index c.loop-job.releases.items _ c.loop-job-test.false c.loop-job.invariant
