use Rattle.std.proofs.Common.{◌≡◌, ℕ, List, OnOk, map, ap, subst, ◌∙◌}
use Rattle.std.specs.Prelude.{IfErr}
use Rattle.counted_io.specs.Sides.{Side, side}
use Rattle.figure_text.specs.Jobs.{jobs_text, jobs_view_of}
use Rattle.calls_trace.specs.Written.{IsWritten, IsUnwritten}
use Rattle.calls_trace.specs.private.Summed.{jobs_as}
use Rattle.calls_trace.proofs.summing.write_summed_jobs.Goals as goal

pub returns-clause-ok : goal.returns-clause-ok
returns-clause-ok g c =
    let w : Side = side g.W.Write.contents c.args.writer.now c.write_all_jobs.new.writer in
    let same : jobs_text (map jobs_view_of c.deref.result.now) ≡ jobs_text (map jobs_as c.args.runs.now) = ap jobs_text (ap (map jobs_view_of) c.deref.ensures.value ∙ c.in_ok-domains.ensures) in
    subst (λ (t : List ℕ). OnOk c.write_all_jobs.result (IsWritten w t)) same c.write_all_jobs.ensures.ok

pub returns-clause-err : goal.returns-clause-err
returns-clause-err g c =
    let w : Side = side g.W.Write.contents c.args.writer.now c.write_all_jobs.new.writer in
    let same : jobs_text (map jobs_view_of c.deref.result.now) ≡ jobs_text (map jobs_as c.args.runs.now) = ap jobs_text (ap (map jobs_view_of) c.deref.ensures.value ∙ c.in_ok-domains.ensures) in
    subst (λ (t : List ℕ). IfErr c.write_all_jobs.result (IsUnwritten w t)) same c.write_all_jobs.ensures.err
