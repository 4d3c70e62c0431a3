use Rattle.std.proofs.Common.{◌≡◌, ℕ, List, OnOk, map, ap, subst, ◌∙◌}
use Rattle.std.specs.Prelude.{IfErr}
use Rattle.counted_io.specs.Sides.{Side, side}
use Rattle.figure_text.specs.Jobs.{jobs_text, jobs_view_of}
use Rattle.calls_trace.specs.DomainEvents.{jobs_of_sections}
use Rattle.calls_trace.specs.Written.{IsWritten, IsUnwritten}
use Rattle.calls_trace.specs.private.Summed.{named_as}
use Rattle.calls_trace.proofs.streamed_jobs.write_streamed_jobs.Goals as goal

pub all_jobs_streamed-requires-clause-legal : goal.all_jobs_streamed-requires-clause-legal
all_jobs_streamed-requires-clause-legal g c = c.requires.legal

pub all_jobs_streamed-requires-clause-count : goal.all_jobs_streamed-requires-clause-count
all_jobs_streamed-requires-clause-count g c = c.requires.count

pub all_jobs_streamed-requires-clause-as_many : goal.all_jobs_streamed-requires-clause-as_many
all_jobs_streamed-requires-clause-as_many g c = c.requires.as_many

pub all_jobs_streamed-requires-clause-runs : goal.all_jobs_streamed-requires-clause-runs
all_jobs_streamed-requires-clause-runs g c = c.requires.runs

pub all_jobs_streamed-requires-clause-streamed : goal.all_jobs_streamed-requires-clause-streamed
all_jobs_streamed-requires-clause-streamed g c = c.requires.streamed

pub returns-clause-ok : goal.returns-clause-ok
returns-clause-ok g c =
    let w : Side = side g.W.Write.contents c.args.writer.now c.write_all_jobs.new.writer in
    let same : jobs_text (map jobs_view_of c.deref-2.result.now) ≡ jobs_of_sections c.args.histories.now =
    ap jobs_text (ap (map jobs_view_of) c.deref-2.ensures.value ∙ c.in_ok-domains.ensures ∙ ap (map named_as) c.deref.ensures.value ∙ c.in_ok-named.ensures) in
    subst (λ (t : List ℕ). OnOk c.write_all_jobs.result (IsWritten w t)) same c.write_all_jobs.ensures.ok

pub returns-clause-err : goal.returns-clause-err
returns-clause-err g c =
    let w : Side = side g.W.Write.contents c.args.writer.now c.write_all_jobs.new.writer in
    let same : jobs_text (map jobs_view_of c.deref-2.result.now) ≡ jobs_of_sections c.args.histories.now =
    ap jobs_text (ap (map jobs_view_of) c.deref-2.ensures.value ∙ c.in_ok-domains.ensures ∙ ap (map named_as) c.deref.ensures.value ∙ c.in_ok-named.ensures) in
    subst (λ (t : List ℕ). IfErr c.write_all_jobs.result (IsUnwritten w t)) same c.write_all_jobs.ensures.err
