use Rattle.std.proofs.Common.{List, ap, ◌∙◌, sym}
use Rattle.std.specs.Prelude.{flat_map}
use Rattle.std.proofs.lemmas.List.{take_all}
use Rattle.std.proofs.lemmas.List.Folds.{flat_map-map}
use Rattle.figure_text.specs.declared.promises.PromiseRow.{PromiseRow}
use Rattle.figure_text.specs.Promises.{promise_view_of, promise_line}
use Rattle.draft.proofs.CallerLemmas.{joined, as_text}
use Rattle.figure_text.proofs.promises.put_promises.Goals as goal

pub returns : goal.returns
returns c =
    let rows = c.args.rows.now in
    joined c.args.out.now c.put.new.self c.loop-row.out _ _ c.put.ensures
    (as_text c.put.new.self c.loop-row.out _ _
    (ap (λ (rs : List PromiseRow). flat_map (λ r. promise_line (promise_view_of r)) rs) (take_all c.loop-row.row-index rows c.loop-row-test.false)
    ∙ sym (flat_map-map promise_line promise_view_of rows))
    c.loop-row.invariant)
