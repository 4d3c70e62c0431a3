use Rattle.std.proofs.Common.{◌≡◌, ◌<◌, [], ◌∷◌, ◌++◌, ◌∙◌, length, drop, refl, sym, ap, arith, rules, append-nil}
use Rattle.std.proofs.lemmas.List.{length-drop}
use Rattle.recorded_jobs.specs.Jobs.{stretches_cut, jobs_cut}
use Rattle.recorded_jobs.specs.private.Groups.{group_len}
use Rattle.recorded_jobs.proofs.Groups.{group_some, next_job, none_cut}
use Rattle.recorded_jobs.proofs.cutting.jobs_cut.Goals as goal

pub loop-rest-smaller : goal.loop-rest-smaller
loop-rest-smaller c =
    let some : 0 < length c.loop-rest.rest.now = search rules in
    let one = group_some c.loop-rest.rest.now some in
    omega (arith, some, one, c.group_len.ensures.value, c.group_len.ensures.within, c.split_at.ensures.back_len)

pub loop-rest-preserved : goal.loop-rest-preserved
loop-rest-preserved c =
    let some : 0 < length c.loop-rest.rest.now = search rules in
    next_job c.loop-rest.rest.now c.split_at.result.0.now c.split_at.result.1.now c.job_of.result c.group_len.result c.loop-rest.jobs.items c.push_job.new.jobs.items _ some c.group_len.ensures.value c.split_at.ensures.front c.split_at.ensures.back c.job_of.ensures c.in_ok-push_job.ensures c.loop-rest.invariant

pub returns : goal.returns
returns c =
    let none : length c.loop-rest.rest.now ≡ 0 = search rules in
    none_cut c.loop-rest.rest.now c.loop-rest.jobs.items _ none c.loop-rest.invariant
