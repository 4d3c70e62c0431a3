use Rattle.std.proofs.Common.{◌∙◌}
use Rattle.calls_trace.specs.declared.summed_run.SummedRun.{SummedRun}
use Rattle.calls_trace.specs.private.Summed.{IsSummedSection}
use Rattle.calls_trace.proofs.Forelogged.{calls_few}
use Rattle.calls_trace.proofs.StreamedCalls.{summary_of_calls}
use Rattle.calls_trace.proofs.StreamedJobs.{both_ok, jobs_of_calls}
use Rattle.calls_trace.proofs.summing.summed_read.Goals as goal

pub sum_up-requires-clause-few : goal.sum_up-requires-clause-few
sum_up-requires-clause-few c =
    let b = c.requires.begun in
    let m = c.in_ok-foreseen.ensures.read b.text b.before b.within in
    calls_few m.section c.args.cpus c.args.limit c.in_ok-foreseen.foreseen.calls m.same m.is.most_entries

pub returns-clause-read : goal.returns-clause-read
returns-clause-read c = λ text before w.
    let f = c.in_ok-foreseen.foreseen in
    let m = c.in_ok-foreseen.ensures.read text before w in
    both_ok c.sum_up.result _ _ (λ (r : SummedRun). IsSummedSection text before c.args.jobs c.foreseen_read.new.reader r)
    (λ r is made. record {
      section = m.section;
      is = m.is;
      following = m.following;
      figures = is ∙ summary_of_calls m.section c.args.cpus c.args.limit f.calls m.same;
      are_jobs = λ wanted. made wanted ∙ jobs_of_calls m.section c.args.cpus c.args.limit f.calls m.same;
    }) c.sum_up.ensures.figures c.sum_up.ensures.jobs
