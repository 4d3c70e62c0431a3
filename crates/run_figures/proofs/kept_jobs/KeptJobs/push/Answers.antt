use Rattle.std.proofs.Common.{◌≡◌, ◌+◌, ◌^◌, ◌<◌, ℕ, List, [], ◌∷◌, ◌++◌, length, ap, ◌∙◌, subst, sym, arith}
use Rattle.run_figures.specs.declared.job.Job.{Job}
use Rattle.run_figures.specs.declared.job_codes.Before.{Before}
use Rattle.run_figures.specs.WideJobs.{IsWide}
use Rattle.run_figures.specs.private.JobCodes.{no_job, parts_of, code_of, AreCodesKept}
use Rattle.run_figures.specs.TaskJobsView.{TaskJobsView}
use Rattle.run_figures.proofs.JobCodes.{one_more, jobs_countable, IsOneMore}
use Rattle.run_figures.proofs.kept_jobs.KeptJobs.push.Goals as goal

-- one job more, in what the call did
more_by : (numbers more given code : List ℕ) (end : Before) (many : ℕ) (j : Job) → AreCodesKept numbers end many → IsWide j → more ≡ numbers ++ given → given ≡ code → code ≡ code_of (parts_of end j) → IsOneMore numbers many j more
more_by numbers more given code end many j kept wide is same made =
    one_more numbers end many j more kept wide (is ∙ ap (λ (ns : List ℕ). numbers ++ ns) (same ∙ made))

pub invariant_of-self-2 : goal.invariant_of-self-2
invariant_of-self-2 c =
    let more = more_by c.self.inside.numbers c.push_all.new.self c.as_slice.result.now c.code_of-code.result c.self.inside.last c.self.inside.count c.args.job c.self.invariant c.parts_of.ensures.wide c.in_ok-push_all.ensures.ok c.as_slice.ensures.value (c.code_of-code.ensures ∙ ap code_of c.parts_of.ensures.parts) in
    subst (λ (b : Before). AreCodesKept c.push_all.new.self b (c.self.inside.count + 1)) (sym c.before_of-self-inside.ensures) more.kept

pub overflow_add-self : goal.overflow_add-self
overflow_add-self c =
    let more = more_by c.self.inside.numbers c.push_all.new.self c.as_slice.result.now c.code_of-code.result c.self.inside.last c.self.inside.count c.args.job c.self.invariant c.parts_of.ensures.wide c.in_ok-push_all.ensures.ok c.as_slice.ensures.value (c.code_of-code.ensures ∙ ap code_of c.parts_of.ensures.parts) in
    let countable = c.left.ensures.countable in
    let few : length c.push_all.new.self < 2 ^ 64 = omega (arith, ap length c.left.ensures.numbers, countable) in
    let jobs = jobs_countable no_job c.push_all.new.self (2 ^ 64) more.kept.codes few in
    omega (arith, more.kept.count, jobs)

pub returns-clause-ok : goal.returns-clause-ok
returns-clause-ok c =
    let more = more_by c.self.inside.numbers c.push_all.new.self c.as_slice.result.now c.code_of-code.result c.self.inside.last c.self.inside.count c.args.job c.self.invariant c.parts_of.ensures.wide c.in_ok-push_all.ensures.ok c.as_slice.ensures.value (c.code_of-code.ensures ∙ ap code_of c.parts_of.ensures.parts) in
    (λ i. record { number = c.self.inside.number; jobs = more.jobs i })
    ∙ ap (λ (t : TaskJobsView). record { number = t.number; jobs = t.jobs ++ c.args.job ∷ [] }) c.self.view_is
