use Rattle.json_order.specs.Lent.{lent_json}
use Rattle.json_order.specs.private.Whole.{IsWholeText}
use Rattle.json_order.proofs.Crossings.{whole_value}
use Rattle.json_order.proofs.reading.read_text.Goals as goal

pub returns-in-Some-clause-found : goal.returns-in-Some-clause-found
returns-in-Some-clause-found c =
    let whole : IsWholeText c.args.text.now (lent_json c.in-Some.tree) = rw c.in-Some.is at c.in-Ok.ensures.ok in
    (whole_value c.args.text.now (lent_json c.in-Some.tree) c.utf8.text whole).0

pub returns-in-Some-clause-only : goal.returns-in-Some-clause-only
returns-in-Some-clause-only c =
    let whole : IsWholeText c.args.text.now (lent_json c.in-Some.tree) = rw c.in-Some.is at c.in-Ok.ensures.ok in
    (whole_value c.args.text.now (lent_json c.in-Some.tree) c.utf8.text whole).1
