use Rattle.std.proofs.Common.{◌≡◌, ◌∙◌, List, ℕ, subst, sym}
use Rattle.std.specs.List.Sorted.{IsNonDecreasing}
use Rattle.recorded_jobs.proofs.Released.{wakes_in_order}
use Rattle.recorded_jobs.proofs.finding.jobs_of_task.Goals as goal

pub releases_after-requires : goal.releases_after-requires
releases_after-requires c = subst IsNonDecreasing (sym (c.deref-2.ensures.value ∙ c.in_ok-wakes.ensures)) (wakes_in_order c.args.task c.args.moments.now c.requires.order)
