use Rattle.json_order.proofs.Escapes.{if_some, unit_escape}
use Rattle.json_order.proofs.escape.escape_of.Goals as goal

pub returns-in-Some : goal.returns-in-Some
returns-in-Some c =
    if_some c.char_of.result _ _ (λ e h. unit_escape c.in-Some.unit e.0 c.args.rest.now c.in-Some.after.now e.1.now c.in-Some.ensures.spelt h) c.char_of.ensures
