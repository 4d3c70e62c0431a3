use Rattle.std.proofs.Common.{◌<◌, true, length, refl, arith}
use Rattle.session.proofs.Opening.{not_there, given_out}
use Rattle.session.proofs.session.Session.client.Goals as goal

pub returns-in_err-hand : goal.returns-in_err-hand
returns-in_err-hand g c =
    let hands = c.self.inside.hands in
    let k = c.in_ok-place.place in
    let short : k < hands.len = c.in_ok-get_mut.ensures.variant.0 (refl {a = true}) in
    let inside : k < length hands.items = omega (arith, short, hands.ok.0) in
    let is = not_there hands.items c.args.self.now k c.args.number c.in_ok-get_mut.field-0.now c.take.new.self
    inside c.in_ok-get_mut.ensures.value c.self.view_is c.in_ok-place.ensures.1 c.in_err-hand.ensures.value c.in_err-hand.ensures.after in
    rw c.from_residual-in_err-hand.ensures is

pub returns : goal.returns
returns g c =
    let hands = c.self.inside.hands in
    let k = c.in_ok-place.place in
    let short : k < hands.len = c.in_ok-get_mut.ensures.variant.0 (refl {a = true}) in
    let inside : k < length hands.items = omega (arith, short, hands.ok.0) in
    given_out g.N.Names.id hands.items c.args.self.now k c.args.number c.in_ok-get_mut.field-0.now c.take.new.self c.in_ok-hand.hand c.new.result
    inside c.in_ok-get_mut.ensures.value c.self.view_is c.in_ok-place.ensures.1 (omega (arith, c.in_ok-place.ensures.0)) c.in_ok-hand.ensures.value c.in_ok-hand.ensures.after c.new.ensures
