use Rattle.std.proofs.Common.{◌≡◌, ℕ, subst, arith}
use Rattle.std.proofs.lemmas.Grind.{common_steps}
use Rattle.session.specs.private.Entering.{IsDoneFor}
use Rattle.session.proofs.client.Client.enter_at.Goals as goal

pub returns-in_default : goal.returns-in_default
returns-in_default g c =
    let seven : 7 ≡ c.args.place = omega (arith, c.requires.place, c.shared.invariant.2.few, c.in_default) in
    subst (λ (d : ℕ). IsDoneFor g.N.Names.id d c.args.self.now c.enter-in_default.new.self c.args.ask c.enter-in_default.result) seven c.enter-in_default.ensures

pub returns-in-0 : goal.returns-in-0
returns-in-0 g c = grind (arith, common_steps)

pub returns-in-1 : goal.returns-in-1
returns-in-1 g c = grind (arith, common_steps)

pub returns-in-2 : goal.returns-in-2
returns-in-2 g c = grind (arith, common_steps)

pub returns-in-3 : goal.returns-in-3
returns-in-3 g c = grind (arith, common_steps)

pub returns-in-4 : goal.returns-in-4
returns-in-4 g c = grind (arith, common_steps)

pub returns-in-5 : goal.returns-in-5
returns-in-5 g c = grind (arith, common_steps)

pub returns-in-6 : goal.returns-in-6
returns-in-6 g c = grind (arith, common_steps)
