use Rattle.std.proofs.Common.{◌≡◌, ℕ, subst, arith}
use Rattle.std.specs.Prelude.{IfOk, IfErr}
use Rattle.call_book.specs.MoveAnswers.{moving_as}
use Rattle.session.specs.Asks.{part_in}
use Rattle.session.specs.Moves.{WasListed}
use Rattle.session.specs.private.Moving.{IsUnpreparedAt}
use Rattle.session.proofs.client.Client.prepare_at.Goals as goal

pub returns-in_default-clause-listed : goal.returns-in_default-clause-listed
returns-in_default-clause-listed g c =
    let seven : 7 ≡ c.args.from = omega (arith, c.requires.from, c.shared.invariant.2.few, c.in_default) in
    subst (λ (d : ℕ). IfOk c.prepare_here-in_default.result (λ a. WasListed g.N.Names.id d c.args.number (part_in c.args.self.now d) (moving_as a))) seven c.prepare_here-in_default.ensures.listed

pub returns-in_default-clause-fault : goal.returns-in_default-clause-fault
returns-in_default-clause-fault g c =
    let seven : 7 ≡ c.args.from = omega (arith, c.requires.from, c.shared.invariant.2.few, c.in_default) in
    subst (λ (d : ℕ). IfErr c.prepare_here-in_default.result (IsUnpreparedAt g.N.Names.id d c.args.number (part_in c.args.self.now d))) seven c.prepare_here-in_default.ensures.fault
