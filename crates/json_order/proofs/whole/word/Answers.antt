use Rattle.std.proofs.Common.{◌++◌, ap, sym, ◌∙◌}
use Rattle.json_order.proofs.Crossings.{word_read}
use Rattle.json_order.proofs.whole.word.Goals as goal

pub returns-in-Some : goal.returns-in-Some
returns-in-Some c =
    let h = c.in-Some.ensures.cases in
    (c.tree-tree.ensures, word_read c.args.word c.tail.result.now c.args.rest.now c.in-Some.after.now c.tail.ensures (h.1.1 ∙ ap (λ x. c.tail.result.now ++ x) (sym h.2)))
