use Rattle.json_order.specs.Lent.{text_bytes}
use Rattle.json_order.specs.private.Whole.{IsQuoted}
use Rattle.json_order.proofs.Trees.{text_seen}
use Rattle.json_order.proofs.whole.text.Goals as goal

pub returns-in-Some-clause-ok : goal.returns-in-Some-clause-ok
returns-in-Some-clause-ok c =
    let inside : IsQuoted (text_bytes c.in-Some.text) c.args.rest.now c.in-Some.after.now = rw c.in-Some.is at c.in_ok-text.ensures.ok in
    (text_bytes c.in-Some.text, text_seen c.in-Some.text, inside)
