use Rattle.std.proofs.Common.{◌≡◌, ℕ, List, OnOk, subst, ◌∙◌}
use Rattle.std.specs.Prelude.{IfErr}
use Rattle.counted_io.specs.Sides.{Side, side}
use Rattle.calls_trace.specs.DomainEvents.{summary_of_sections}
use Rattle.calls_trace.specs.Written.{IsWritten, IsUnwritten}
use Rattle.calls_trace.proofs.streamed_summary.write_streamed_summary.Goals as goal

pub streamed_text-requires-clause-few : goal.streamed_text-requires-clause-few
streamed_text-requires-clause-few g c = c.requires.few

pub streamed_text-requires-clause-legal : goal.streamed_text-requires-clause-legal
streamed_text-requires-clause-legal g c = c.requires.legal

pub streamed_text-requires-clause-count : goal.streamed_text-requires-clause-count
streamed_text-requires-clause-count g c = c.requires.count

pub streamed_text-requires-clause-as_many : goal.streamed_text-requires-clause-as_many
streamed_text-requires-clause-as_many g c = c.requires.as_many

pub streamed_text-requires-clause-runs : goal.streamed_text-requires-clause-runs
streamed_text-requires-clause-runs g c = c.requires.runs

pub streamed_text-requires-clause-streamed : goal.streamed_text-requires-clause-streamed
streamed_text-requires-clause-streamed g c = c.requires.streamed

pub returns-clause-ok : goal.returns-clause-ok
returns-clause-ok g c =
    let w : Side = side g.W.Write.contents c.args.writer.now c.write_whole.new.writer in
    let same : c.deref.result.now ≡ summary_of_sections c.args.histories.now = c.deref.ensures.value ∙ c.in_ok-text.ensures in
    subst (λ (t : List ℕ). OnOk c.write_whole.result (IsWritten w t)) same c.write_whole.ensures.ok

pub returns-clause-err : goal.returns-clause-err
returns-clause-err g c =
    let w : Side = side g.W.Write.contents c.args.writer.now c.write_whole.new.writer in
    let same : c.deref.result.now ≡ summary_of_sections c.args.histories.now = c.deref.ensures.value ∙ c.in_ok-text.ensures in
    subst (λ (t : List ℕ). IfErr c.write_whole.result (IsUnwritten w t)) same c.write_whole.ensures.err
