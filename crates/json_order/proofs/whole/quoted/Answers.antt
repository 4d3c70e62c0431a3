use Rattle.json_order.proofs.whole.quoted.Goals as goal

pub returns-in-Some-clause-ok : goal.returns-in-Some-clause-ok
returns-in-Some-clause-ok c = (c.in_ok-text.behind.now, c.in_ok-text.ensures.ok, c.in-Some.ensures)
