use Rattle.std.proofs.Common.{List, [], ◌∷◌, ◌++◌, ap, ◌∙◌}
use Rattle.domain_run.specs.declared.call.Call.{Call}
use Rattle.calls_trace.specs.declared.kept.Place.{Place}
use Rattle.calls_trace.specs.private.LittleRoom.{calls_of_orders}
use Rattle.calls_trace.proofs.LittleRoom.{calls_short}
use Rattle.calls_trace.proofs.kept.KeptCalls.push_short.Goals as goal

pub returns : goal.returns
returns c =
    let long = c.self.inside.long.items in
    ap (λ (order : List Place). calls_of_orders order long) c.in-Ok.ensures.items
    ∙ calls_short c.self.inside.order.items c.args.place long c.self.invariant
    ∙ ap (λ (cs : List Call). cs ++ calls_of_orders (c.args.place ∷ []) []) c.self.view_is
