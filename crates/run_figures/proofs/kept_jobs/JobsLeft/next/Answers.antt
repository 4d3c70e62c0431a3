use Rattle.std.proofs.Common.{List, ◌∷◌, sym, ap, ◌∙◌, subst}
use Rattle.run_figures.specs.declared.job.Job.{Job}
use Rattle.run_figures.specs.declared.job_codes.Before.{Before}
use Rattle.run_figures.specs.private.JobCodes.{before_of, job_read, jobs_coded, after_code, AreCodes}
use Rattle.run_figures.proofs.JobCodes.{one_read}
use Rattle.run_figures.proofs.kept_jobs.JobsLeft.next.Goals as goal

pub invariant_of-self-in-Some : goal.invariant_of-self-in-Some
invariant_of-self-in-Some c =
    let before = c.self.inside.before in
    let ns = c.next.new.self in
    let rest = one_read before c.in-Some.marks ns (subst (AreCodes before) c.in-Some.ensures c.self.invariant) in
    let last = c.before_of-self-inside.ensures ∙ ap before_of c.read_job-job.ensures.job in
    subst (AreCodes c.before_of-self-inside.result) (sym c.read_job-job.ensures.left)
    (subst (λ (b : Before). AreCodes b (after_code c.in-Some.marks ns)) (sym last) rest.codes)

pub returns-in-Some : goal.returns-in-Some
returns-in-Some c =
    let before = c.self.inside.before in
    let ns = c.next.new.self in
    let j = job_read before c.in-Some.marks ns in
    let rest = one_read before c.in-Some.marks ns (subst (AreCodes before) c.in-Some.ensures c.self.invariant) in
    let last = c.before_of-self-inside.ensures ∙ ap before_of c.read_job-job.ensures.job in
    sym c.self.view_is
    ∙ ap (jobs_coded before) c.in-Some.ensures
    ∙ ap (λ (js : List Job). j ∷ js) (sym rest.jobs)
    ∙ (λ i. sym c.read_job-job.ensures.job i ∷ jobs_coded (sym last i) (sym c.read_job-job.ensures.left i))
