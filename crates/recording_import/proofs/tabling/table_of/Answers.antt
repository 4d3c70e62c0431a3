use Rattle.std.proofs.Common.{◌∙◌, ap, List, ℕ, length, map}
use Rattle.std.specs.declared.vec.Vec.{Vec}
use Rattle.std.specs.Global.{Global}
use Rattle.recorded_jobs.specs.declared.job.Release.{Release}
use Rattle.recorded_table.specs.Table.{jobs_table}
use Rattle.recorded_workload.proofs.CallerLemmas.{found_all}
use Rattle.recording_import.proofs.Answering.{same_text}
use Rattle.recording_import.proofs.tabling.table_of.Goals as goal

pub jobs_table-requires : goal.jobs_table-requires
jobs_table-requires c = ap length c.deref.ensures.value ∙ c.in_ok-found.ensures.jobs.as_many

pub returns : goal.returns
returns c =
    let names : List (List ℕ) = map (λ t. t.name) c.args.tasks.now in
    same_text c.jobs_table.result _ _
    (ap (λ (js : List (Vec Release Global)). jobs_table names (map (λ v. v.items) js)) c.deref.ensures.value ∙ ap (jobs_table names) (found_all c.args.moments.now c.args.tasks.now c.in_ok-found.found.jobs.items c.in_ok-found.ensures.jobs))
    c.jobs_table.ensures
