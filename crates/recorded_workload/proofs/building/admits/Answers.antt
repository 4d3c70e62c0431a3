use Rattle.std.proofs.Common.{◌∙◌, ◌++◌, List, length, sym, ap, arith}
use Rattle.recorded_jobs.specs.declared.job.Release.{Release}
use Rattle.recorded_workload.specs.Workload.{admit_of, numbered_from}
use Rattle.recorded_workload.specs.Refusals.{fits_script}
use Rattle.recorded_workload.proofs.Walks.{long_fits, long_later}
use Rattle.recorded_workload.proofs.Numbered.{admits_step, admits_none}
use Rattle.recorded_workload.proofs.building.admits.Goals as goal

pub push_admit-requires-clause-short : goal.push_admit-requires-clause-short
push_admit-requires-clause-short c = ap (fits_script c.args.start) c.deref.ensures.value ∙ long_fits c.args.start c.args.jobs.now c.loop-n.n c.index-jobs-n.result c.index-jobs-n.is (omega (arith, c.loop-n-test.true, c.requires.same)) c.loop-n.invariant.short

pub loop-n-preserved : goal.loop-n-preserved
loop-n-preserved c =
    record {
      found = admits_step c.args.start c.loop-n.n c.args.tasks.now c.args.jobs.now c.index-tasks-n.result c.index-jobs-n.result c.loop-n.entries.items c.push_admit.new.entries.items _ c.index-tasks-n.is c.index-jobs-n.is c.loop-n-test.true (omega (arith, c.loop-n-test.true, c.requires.same)) (c.in_ok-push_admit.ensures.added ∙ ap (λ (js : List Release). c.loop-n.entries.items ++ numbered_from (length c.loop-n.entries.items) (admit_of c.args.start c.loop-n.n c.index-tasks-n.result js)) c.deref.ensures.value) c.loop-n.invariant.found;
      short = sym (long_later c.args.start c.args.jobs.now c.loop-n.n c.index-jobs-n.result c.index-jobs-n.is (omega (arith, c.loop-n-test.true, c.requires.same)) (long_fits c.args.start c.args.jobs.now c.loop-n.n c.index-jobs-n.result c.index-jobs-n.is (omega (arith, c.loop-n-test.true, c.requires.same)) c.loop-n.invariant.short)) ∙ c.loop-n.invariant.short;
    }

pub returns-clause-found : goal.returns-clause-found
returns-clause-found c = admits_none c.args.start c.loop-n.n c.args.tasks.now _ c.loop-n.entries.items _ c.loop-n-test.false c.loop-n.invariant.found
