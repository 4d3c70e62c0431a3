use Rattle.std.proofs.Common.{List, [], ◌∷◌, ◌++◌, ap, ◌∙◌}
use Rattle.domain_run.specs.declared.call.Call.{Call}
use Rattle.calls_trace.specs.declared.kept.Place.{Place}
use Rattle.calls_trace.specs.declared.kept.Place.TheVariants.{Long}
use Rattle.calls_trace.specs.declared.kept.Spelled.{Spelled}
use Rattle.calls_trace.specs.private.LittleRoom.{calls_of_orders}
use Rattle.calls_trace.proofs.LittleRoom.{calls_append}
use Rattle.calls_trace.proofs.kept.KeptCalls.push_long.Goals as goal

pub returns : goal.returns
returns c =
    let order = c.self.inside.order.items in
    let long = c.self.inside.long.items in
    let s = c.args.spelled in
    ap (λ (ks : List Place). calls_of_orders ks c.push_reserved-2.new.self.items) (c.push_reserved.ensures.items ∙ ap (λ (ks : List Place). ks ++ Long ∷ []) c.make_room.ensures.order)
    ∙ ap (λ (ss : List Spelled). calls_of_orders (order ++ Long ∷ []) ss) (c.push_reserved-2.ensures.items ∙ ap (λ (ss : List Spelled). ss ++ s ∷ []) c.make_room.ensures.long)
    ∙ calls_append order (Long ∷ []) long (s ∷ []) c.self.invariant
    ∙ ap (λ (cs : List Call). cs ++ s.call ∷ []) c.self.view_is
