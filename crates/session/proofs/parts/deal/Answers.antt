use Rattle.std.proofs.Common.{◌≡◌, Option, Some, refl, length, sym, subst, ◌∙◌, arith}
use Rattle.session.specs.declared.parts.Hand.{Hand}
use Rattle.session.proofs.Opening.{Gets, dealing_more}
use Rattle.session.proofs.parts.deal.Goals as goal

pub loop-pass-preserved-in-Some-index_mut : goal.loop-pass-preserved-in-Some-index_mut
loop-pass-preserved-in-Some-index_mut c =
    let was = c.in-Some-index_mut.hand in
    let now : Hand = record { passes = c.push_reserved.new.self; blank = was.blank } in
    let left = c.pop.new.self in
    let p = c.in-Some.pass in
    let last : c.len.result ≡ length left.items = c.len.ensures ∙ left.ok.0 in
    let push = c.push_reserved.ensures in
    let gets = subst (λ (o : Option Hand). Gets o (Some now) p) (sym c.in-Some-index_mut.is) (push.items, omega (arith, push.capacity), refl) in
    dealing_more c.args.hands.now.items c.loop-pass.hands.items c.args.passes.items c.loop-pass.passes.items left.items p c.len.result c.index_mut.result.now (Some now)
    c.in-Some.ensures.items last c.index_mut.ensures.value gets c.loop-pass.invariant

pub loop-pass-preserved : goal.loop-pass-preserved
loop-pass-preserved c =
    let left = c.pop.new.self in
    let p = c.in-Some.pass in
    let none = c.index_mut.result.now in
    let last : c.len.result ≡ length left.items = c.len.ensures ∙ left.ok.0 in
    let gets = subst (λ (o : Option Hand). Gets o o p) (sym c.in_default-index_mut.is) tt in
    dealing_more c.args.hands.now.items c.loop-pass.hands.items c.args.passes.items c.loop-pass.passes.items left.items p c.len.result none none
    c.in-Some.ensures.items last c.index_mut.ensures.value gets c.loop-pass.invariant
