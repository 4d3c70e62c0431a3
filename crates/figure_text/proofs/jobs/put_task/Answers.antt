use Rattle.std.proofs.Common.{◌≡◌, ℕ, ◌+◌, List, ◌++◌, length, ap, ◌∙◌, subst, arith}
use Rattle.counted_io.specs.Sides.{inner_of}
use Rattle.run_figures.specs.declared.job.Job.{Job}
use Rattle.run_figures.specs.Lines.{numbered_lines}
use Rattle.figure_text.specs.Jobs.{job_line}
use Rattle.figure_text.specs.private.Outgoing.{Puts, Stops}
use Rattle.figure_text.proofs.Sending.{goes_on, stops_there, anyway}
use Rattle.figure_text.proofs.jobs.put_task.Goals as goal

pub returns-in_err-put_job-clause-err : goal.returns-in_err-put_job-clause-err
returns-in_err-put_job-clause-err g c =
    let before = g.W.Write.contents (inner_of c.args.writer.now) in
    let mid = g.W.Write.contents (inner_of c.jobs.writer) in
    let after = g.W.Write.contents (inner_of c.put_job.new.writer) in
    let task = c.args.task.now in
    let line : ℕ → Job → List ℕ = job_line c.args.name.now task.number in
    let text = numbered_lines line 0 task.jobs in
    let left = numbered_lines line c.jobs.place c.jobs.jobs in
    let piece = line c.jobs.place c.in-Some.job in
    let rest = numbered_lines line (c.jobs.place + 1) c.next.new.self in
    let next : left ≡ piece ++ rest = ap (numbered_lines line c.jobs.place) c.in-Some.ensures in
    let stops = subst (λ (n : ℕ). Stops mid after c.jobs.out c.put_job.new.out (job_line c.args.name.now n c.jobs.place c.in-Some.job)) c.number-number.ensures c.in_err-put_job.ensures.err in
    anyway c.from_residual.result
    (stops_there before mid after c.args.out.now c.jobs.out c.put_job.new.out text left piece rest c.jobs.invariant.under next stops)

pub jobs-preserved : goal.jobs-preserved
jobs-preserved g c =
    let before = g.W.Write.contents (inner_of c.args.writer.now) in
    let mid = g.W.Write.contents (inner_of c.jobs.writer) in
    let after = g.W.Write.contents (inner_of c.put_job.new.writer) in
    let task = c.args.task.now in
    let line : ℕ → Job → List ℕ = job_line c.args.name.now task.number in
    let text = numbered_lines line 0 task.jobs in
    let left = numbered_lines line c.jobs.place c.jobs.jobs in
    let piece = line c.jobs.place c.in-Some.job in
    let rest = numbered_lines line (c.jobs.place + 1) c.next.new.self in
    let next : left ≡ piece ++ rest = ap (numbered_lines line c.jobs.place) c.in-Some.ensures in
    let puts = subst (λ (n : ℕ). Puts mid after c.jobs.out c.put_job.new.out (job_line c.args.name.now n c.jobs.place c.in-Some.job)) c.number-number.ensures c.in_ok-put_job.ensures.ok in
    let few = c.jobs.invariant.few in
    record {
      under = goes_on before mid after c.args.out.now c.jobs.out c.put_job.new.out text left piece rest c.jobs.invariant.under next puts;
      few = omega (arith, few, ap length c.in-Some.ensures);
      faults = c.in_ok-put_job.ensures.faults ∙ c.jobs.invariant.faults;
    }
