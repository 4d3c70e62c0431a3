use Rattle.std.proofs.Common.{subst, sym, ◌^◌}
use Rattle.run_figures.specs.declared.job_codes.Before.{Before}
use Rattle.run_figures.specs.private.JobCodes.{AreCodes}
use Rattle.run_figures.proofs.JobCodes.{jobs_countable}
use Rattle.run_figures.proofs.kept_jobs.KeptJobs.left.Goals as goal

pub returns-clause-countable : goal.returns-clause-countable
returns-clause-countable c =
    let codes =
    subst (AreCodes c.no_job.result) (sym c.left.ensures.numbers)
    (subst (λ (b : Before). AreCodes b c.self.inside.numbers) (sym c.no_job.ensures) c.self.invariant.codes) in
    jobs_countable c.no_job.result c.left.result (2 ^ 64) codes c.left.ensures.countable
