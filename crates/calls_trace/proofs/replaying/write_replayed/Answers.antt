use Rattle.std.proofs.Common.{◌≡◌, ℕ, List, sym, subst, ◌∙◌}
use Rattle.std.specs.Prelude.{IfErr, OnOk}
use Rattle.calls_text.specs.SectionView.{SectionView}
use Rattle.counted_io.specs.Sides.{Side, side}
use Rattle.calls_trace.specs.Answer.{replayed_text}
use Rattle.calls_trace.specs.private.Replayed.{IsReplayed, IsUnreplayed}
use Rattle.calls_trace.specs.private.RunTexts.{text_of_all}
use Rattle.calls_trace.proofs.Texts.{text_is}
use Rattle.calls_trace.proofs.replaying.write_replayed.Goals as goal

pub returns-in-Some-clause-ok : goal.returns-in-Some-clause-ok
returns-in-Some-clause-ok g c =
    let w : Side = side g.W.Write.contents c.args.writer.now c.write_run_text.new.writer in
    let same : text_of_all c.in-Some.kind ≡ replayed_text c.args.print = λ i ss. text_is c.in-Some.kind c.args.print (sym c.of.ensures ∙ c.in-Some.is) ss i in
    subst (λ (wanted : List SectionView → List ℕ). OnOk c.write_run_text.result (IsReplayed c.args.text.now wanted w)) same c.write_run_text.ensures.ok

pub returns-in-Some-clause-err : goal.returns-in-Some-clause-err
returns-in-Some-clause-err g c =
    let w : Side = side g.W.Write.contents c.args.writer.now c.write_run_text.new.writer in
    let same : text_of_all c.in-Some.kind ≡ replayed_text c.args.print = λ i ss. text_is c.in-Some.kind c.args.print (sym c.of.ensures ∙ c.in-Some.is) ss i in
    subst (λ (wanted : List SectionView → List ℕ). IfErr c.write_run_text.result (IsUnreplayed c.args.text.now wanted w)) same c.write_run_text.ensures.err
