use Rattle.std.proofs.Common.{◌≡◌, List, ◌+◌, ◌∷◌, drop, sym, ap, ◌∙◌}
use Rattle.std.proofs.lemmas.List.{drop_more}
use Rattle.calls_text.specs.declared.section.Entry.{Entry}
use Rattle.switch_text.specs.Names.{name_of_task}
use Rattle.calls_trace.specs.private.Recorded.{names_given_by, given_by_all}
use Rattle.calls_trace.proofs.named_run.names_given.Goals as goal

pub loop-entry-preserved : goal.loop-entry-preserved
loop-entry-preserved c =
    let i = c.loop-entry.entry-index in
    let entry = c.entry-item.result in
    let entries = c.args.entries.now in
    let was = name_of_task c.loop-entry.names in
    let is = name_of_task c.put_given.new.names in
    let rest = drop (i + 1) entries in
    let same : is ≡ names_given_by entry was = λ j n. c.in_ok-put_given.ensures.ok n j in
    ap (given_by_all rest) same
    ∙ ap (λ (e : Entry). given_by_all (e ∷ rest) was) c.entry-item.is
    ∙ sym (ap (λ (es : List Entry). given_by_all es was) (drop_more entries i entry c.loop-entry-test.true))
    ∙ c.loop-entry.invariant
